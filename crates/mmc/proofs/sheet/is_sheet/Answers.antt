use Rattle.std.proofs.Common.{◌≡◌, sym, ap, ◌∙◌, ℕ, List, length, take, arith, rules}
use lib.ListN.{length-take}
use Rattle.basics.specs.Bytes.{same_bytes}
use Rattle.basics.proofs.Lists.{mapped_length}
use Rattle.mmc.specs.Sheet.{is_sheet, order_for, sheet_of, sheet_bytes, sheet_fault}
use Rattle.mmc.specs.declared.order.Order.{Order}
use Rattle.mmc.proofs.sheet.Entries.{most_room, faultless, faulty}
use Rattle.mmc.proofs.sheet.Reading.{shape, in_length}
use Rattle.mmc.proofs.sheet.Laws.{whole}
use Rattle.mmc.proofs.sheet.is_sheet.Goals as goal

pub returns-then-is_err : goal.returns-then-is_err
unfolding is_sheet
returns-then-is_err c =
    let e = faulty c.check_sheet.result (sym c.is_err.ensures.value ∙ c.if-is_err.true) in
    simp (c.requires.0, ← c.requires.1, ← c.check_sheet.ensures, e)

pub put_sheet-requires : goal.put_sheet-requires
put_sheet-requires c =
    let none = faultless c.check_sheet.result (sym c.is_err.ensures.value ∙ c.if-is_err.false) in
    most_room _ (sym c.check_sheet.ensures ∙ none)

pub slice_bounds-sheet-end : goal.slice_bounds-sheet-end
slice_bounds-sheet-end c = omega (arith, shape c.args.b.now c.requires.0)

pub slice_bounds-same-end : goal.slice_bounds-same-end
slice_bounds-same-end c = omega (arith, length-take {A = ℕ}, shape c.args.b.now c.requires.0)

pub returns : goal.returns
unfolding is_sheet order_for
returns c =
    let o = c.args.o.now in
    let b = c.args.b.now in
    let sized : length c.args.o.now.tracks ≡ 99 = search (rules, mapped_length) in
    let none = faultless c.check_sheet.result (sym c.is_err.ensures.value ∙ c.if-is_err.false) in
    let fault : sheet_fault c.args.o.now ≡ 0 = sym c.check_sheet.ensures ∙ none in
    let long : length c.args.b.now ≡ sheet_bytes c.args.o.now.count =
    in_length b c.requires.0 ∙ ap (λ (x : Order). sheet_bytes x.count) (sym c.requires.1) in
    let e : take (length c.args.b.now) c.put_sheet.new.out ≡ sheet_of c.args.o.now =
    rw c.put_sheet.ensures (whole o sized fault _ long _) in
    c.same.ensures ∙ ap (λ (x : List ℕ). same_bytes x b) e ∙ simp (c.requires.0, ← c.requires.1, fault)
