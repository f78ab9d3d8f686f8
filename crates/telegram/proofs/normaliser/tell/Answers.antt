-- `telegram::normaliser::tell` meets its contract: what is patched is a copy of the telegram. Assumes nothing.
use Rattle.bits.proofs.Bytes.{below_known}
use Rattle.counted.proofs.Patched.{told}
use Rattle.telegram.proofs.normaliser.tell.Goals as goal

pub returns : goal.returns
returns c =
    told c.requires c.copy.ensures c.patch.ensures
    (below_known 256 c.copy.new.out (λ i. (c.slice_known-2-1.given i).fits)) (below_known 256 c.patch.new.out (λ i. (c.type_inv.out i).fits))
