use Rattle.std.proofs.Common.{◌≡◌, ℕ, List, length, arith}
use Rattle.std.proofs.lemmas.Grind.{common_steps}
use Rattle.mmc.specs.Refusals.{pass}
use Rattle.mmc.specs.Page.{mode_data, mode_bytes, page, page_fault, mode_length}
use Rattle.mmc.specs.declared.order.Order.{Order}
use Rattle.mmc.specs.declared.order.Kind.{Kind}
use Rattle.mmc.specs.declared.refusals.Refusal.TheVariants.{FieldValue, MixedOrKept}
use Rattle.mmc.proofs.refusals.Laws.{fills_of, fills_not, without_fault}
use Rattle.mmc.proofs.page.mode_data.Goals as goal

-- all 60 bytes
sized : (o : Order) (k : Kind) (b : List ℕ) → mode_data o k ≡ pass b → length b ≡ mode_length
unfolding mode_data mode_bytes page
sized o k b e = rw (← (without_fault (page_fault o) (mode_bytes o k) b e).1)

pub returns-then-not-is_valid : goal.returns-then-not-is_valid
unfolding mode_data page_fault
returns-then-not-is_valid c =
    record { filled = fills_not FieldValue c.args.out.now (grind (arith, common_steps)); size = sized c.args.o c.args.k }

pub returns-then-keeps_sao : goal.returns-then-keeps_sao
unfolding mode_data page_fault
returns-then-keeps_sao c =
    record { filled = fills_not MixedOrKept c.args.out.now (grind (arith, common_steps)); size = sized c.args.o c.args.k }

pub returns : goal.returns
unfolding mode_data page_fault
returns c = record { filled = fills_of (grind (arith, common_steps)) c.fill.ensures; size = sized c.args.o c.args.k }
