use Rattle.std.proofs.Common.{◌≡◌, ◌∙◌, sym, ap, true, false, List, ℕ, length, take, replicate, rules}
use borrow.Author.Tests.{tests}
use Rattle.basics.proofs.Lists.{mapped_length}
use Rattle.mmc.specs.Refusals.{pass}
use Rattle.mmc.specs.Block.{sealed}
use Rattle.mmc.specs.Order.{valid_order}
use Rattle.mmc.specs.OrderBlock.{order_block}
use Rattle.mmc.specs.declared.refusals.Refusal.TheVariants.{FieldValue}
use Rattle.mmc.proofs.refusals.Laws.{fills_of, fills_not}
use Rattle.mmc.proofs.Bench.{layout_sheets, layout_cases}
use Rattle.mmc.proofs.order_block.Rows.{block_put}
use Rattle.mmc.proofs.order_block.Laws.{reads_back}
use Rattle.mmc.proofs.order_block.write_order.Goals as goal

pub returns-then-not-is_valid : goal.returns-then-not-is_valid
unfolding order_block
returns-then-not-is_valid c =
    let o = c.args.o in
    let sized : length o.tracks ≡ 99 = search (rules, mapped_length) in
    let f : valid_order o ≡ false = search (rules, tests) in
    (record { filled = fills_not FieldValue c.args.out.now (simp f); reads_back = reads_back o sized }, layout_sheets, layout_cases)

pub returns : goal.returns
unfolding order_block
returns c =
    let o = c.args.o in
    let sized : length o.tracks ≡ 99 = search (rules, mapped_length) in
    let t : valid_order o ≡ true = search (rules, tests) in
    let b = c.put_check.ensures ∙ ap (λ (d : List ℕ). sealed (take 510 d)) c.put_body.ensures ∙ block_put o sized (replicate 512 0) in
    (record { filled = fills_of (simp t (ap pass (sym b))) c.fill.ensures; reads_back = reads_back o sized }, layout_sheets, layout_cases)
