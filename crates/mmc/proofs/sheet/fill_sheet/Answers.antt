use Rattle.std.proofs.Common.{◌≡◌, refl, sym, ap, ℕ, ◌+◌, ◌*◌, length, take, arith, rules}
use lib.ListN.{length-take}
use Rattle.basics.proofs.Lists.{mapped_length}
use Rattle.mmc.specs.Refusals.{pass}
use Rattle.mmc.specs.Sheet.{sheet_of}
use Rattle.mmc.proofs.refusals.Laws.{fills_of}
use Rattle.mmc.proofs.sheet.Entries.{most_room}
use Rattle.mmc.proofs.sheet.Laws.{whole}
use Rattle.mmc.proofs.sheet.fill_sheet.Goals as goal

pub put_sheet-requires : goal.put_sheet-requires
put_sheet-requires c = most_room _ c.requires

pub slice_bounds-sheet-end : goal.slice_bounds-sheet-end
slice_bounds-sheet-end c = omega (arith, (most_room c.args.o.now c.requires).few)

pub slice_bounds-fill-end : goal.slice_bounds-fill-end
slice_bounds-fill-end c = omega (arith, length-take {A = ℕ}, (most_room c.args.o.now c.requires).few)

pub returns : goal.returns
returns c =
    let o = c.args.o.now in
    let sized : length c.args.o.now.tracks ≡ 99 = search (rules, mapped_length) in
    let e : take (8 * (c.args.o.now.count + 3)) c.put_sheet.new.out ≡ sheet_of c.args.o.now =
    rw c.put_sheet.ensures (whole o sized c.requires _ refl _) in
    fills_of (ap pass (sym e)) c.fill.ensures
