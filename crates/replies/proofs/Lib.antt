-- What the functions of this crate stand on: what reading, writing, normalising and packing leave, as text; and one outcome to each promise.
mod Telegrams
mod Packs
pub mod Once
