-- `metre_lists::list` meets its contract: by what it is a list of. Assumes nothing.
use mathlib.Core.Path.{refl}
use native.Mathlib.Omega.{arith}
use borrow.Author.Tests.{lt-leb}
use Rattle.distance.specs.Distance.{number_of}
use Rattle.metre_lists.proofs.Reading.{short_bytes, little_room, room}
use Rattle.metre_lists.proofs.ByGroup.{links_laid, slopes_laid, profiles_laid, sections_laid, unlisted, listed, run_listed}
use Rattle.metre_lists.proofs.list.Goals as goal

pub returns-then-s-lt8 : goal.returns-then-s-lt8
returns-then-s-lt8 c =
    let a = c.args in unlisted a.s.now a.out.now (number_of a.k) a.x a.puts a.g (rw (short_bytes a.s.now a.out.now c.if-s-lt8.true) refl)

pub returns-then-out-lt4 : goal.returns-then-out-lt4
returns-then-out-lt4 c =
    let a = c.args in unlisted a.s.now a.out.now (number_of a.k) a.x a.puts a.g (rw (little_room a.s.now a.out.now (omega arith) c.if-out-lt4.true) refl)

pub returns-then-x-gt900 : goal.returns-then-x-gt900
returns-then-x-gt900 c =
    let a = c.args in
    unlisted a.s.now a.out.now (number_of a.k) a.x a.puts a.g (rw (room a.s.now a.out.now (omega arith) (omega arith), lt-leb a.x 900 c.if-x-gt900.true) refl)

pub each-requires : goal.each-requires
each-requires c = (omega arith, omega arith, omega arith, rw c.new.ensures links_laid.sized)

pub returns-in-Links : goal.returns-in-Links
returns-in-Links c =
    let a = c.args in
    let r = rw c.new.ensures at c.each.ensures in
    run_listed a.s.now a.out.now (number_of a.k) a.x a.puts (omega arith) (omega arith) (omega arith) links_laid c.in-Links.is r.0 r.1

pub each-requires-in-Slopes : goal.each-requires-in-Slopes
each-requires-in-Slopes c = (omega arith, omega arith, omega arith, rw c.new-in-Slopes.ensures slopes_laid.sized)

pub returns-in-Slopes : goal.returns-in-Slopes
returns-in-Slopes c =
    let a = c.args in
    let r = rw c.new-in-Slopes.ensures at c.each-in-Slopes.ensures in
    run_listed a.s.now a.out.now (number_of a.k) a.x a.puts (omega arith) (omega arith) (omega arith) slopes_laid c.in-Slopes.is r.0 r.1

pub each-requires-in-Profiles : goal.each-requires-in-Profiles
each-requires-in-Profiles c = (omega arith, omega arith, omega arith, rw c.new-in-Profiles.ensures profiles_laid.sized)

pub returns-in-Profiles : goal.returns-in-Profiles
returns-in-Profiles c =
    let a = c.args in
    let r = rw c.new-in-Profiles.ensures at c.each-in-Profiles.ensures in
    run_listed a.s.now a.out.now (number_of a.k) a.x a.puts (omega arith) (omega arith) (omega arith) profiles_laid c.in-Profiles.is r.0 r.1

pub each-requires-in-Sections : goal.each-requires-in-Sections
each-requires-in-Sections c = (omega arith, omega arith, omega arith, rw c.new-in-Sections.ensures sections_laid.sized)

pub returns-in-Sections : goal.returns-in-Sections
returns-in-Sections c =
    let a = c.args in
    let r = rw c.new-in-Sections.ensures at c.each-in-Sections.ensures in
    run_listed a.s.now a.out.now (number_of a.k) a.x a.puts (omega arith) (omega arith) (omega arith) sections_laid c.in-Sections.is r.0 r.1

pub returns-in-Levels : goal.returns-in-Levels
returns-in-Levels c =
    let a = c.args in
    let r = c.each-in-Levels.ensures in
    listed a.s.now a.out.now (number_of a.k) a.x a.puts (omega arith) (omega arith) (omega arith) c.in-Levels.is r.0 r.1

pub returns-in-Conditions : goal.returns-in-Conditions
returns-in-Conditions c =
    let a = c.args in
    let r = c.each-in-Conditions.ensures in
    listed a.s.now a.out.now (number_of a.k) a.x a.puts (omega arith) (omega arith) (omega arith) c.in-Conditions.is r.0 r.1

pub returns-in-Places : goal.returns-in-Places
returns-in-Places c =
    let a = c.args in
    let r = c.each-in-Places.ensures in
    listed a.s.now a.out.now (number_of a.k) a.x a.puts (omega arith) (omega arith) (omega arith) c.in-Places.is r.0 r.1

pub returns-in-Restrictions : goal.returns-in-Restrictions
returns-in-Restrictions c =
    let a = c.args in
    let r = c.each-in-Restrictions.ensures in
    listed a.s.now a.out.now (number_of a.k) a.x a.puts (omega arith) (omega arith) (omega arith) c.in-Restrictions.is r.0 r.1
