use Rattle.std.proofs.Common.{◌≡◌, ◌∙◌, sym, ap, List, ℕ, Result, Err, refl, arith}
use Rattle.std.proofs.lemmas.Result.{err_from_is_err_and}
use Rattle.mmc.specs.Block.{block_fault}
use Rattle.mmc.specs.Refusals.{outcome_of, number_of}
use Rattle.mmc.specs.OrderBlock.{listed, order_ok, fields_of, read_order, ReadsOrder}
use Rattle.mmc.specs.declared.order.Order.{Order}
use Rattle.mmc.specs.declared.refusals.Refusal.{Refusal}
use Rattle.mmc.specs.declared.refusals.Refusal.TheVariants.{BlockLength}
use Rattle.basics.specs.Bytes.{all_zero}
use Rattle.basics.proofs.Bytes.{Bytes}
use Rattle.mmc.proofs.block.Laws.{wrong_length, read_faulty}
use Rattle.mmc.proofs.order_block.Laws.{written}
use Rattle.mmc.proofs.order_block.Listed.{read_of}
use Rattle.mmc.proofs.order_block.read_order.Goals as goal

refused : (b : List ℕ) → Bytes b → (r : Refusal) → block_fault b ≡ number_of r → ReadsOrder b (Err r)
unfolding read_order
refused b u r e = record { answer = sym (read_faulty b (order_ok b) (fields_of b) r e); written = written b u }

found : (b x : List ℕ) → Bytes b → x ≡ b → {r : Result Order Refusal} → 0 ≡ block_fault x
    → r ≡ listed (order_ok x) (fields_of x) → ReadsOrder b r
unfolding read_order
found b x u h f e =
    rw (← h) record { answer = ap outcome_of e ∙ read_of x (order_ok x) (fields_of x) (sym f); written = rw h (written b u) }

pub returns-in_err-block : goal.returns-in_err-block
returns-in_err-block c =
    let p = err_from_is_err_and c.from_residual.result c.from_residual.ensures.1 in
    let h = c.in_err-block.ensures.refusal in
    rw (p.1, p.2, h.0) (refused c.args.b.now (λ i. (c.type_inv.b i).fits) BlockLength (wrong_length c.args.b.now h.1))

pub check_first-requires : goal.check_first-requires
unfolding all_zero
check_first-requires c = (omega arith, refl)

pub returns-in_err-check_first : goal.returns-in_err-check_first
returns-in_err-check_first c =
    let out = c.from_residual-in_err-check_first in
    let p = err_from_is_err_and out.result out.ensures.1 in
    let e = ap block_fault (sym c.in_ok-block.ensures.block) ∙ sym c.in_err-check_first.ensures in
    rw (p.1, p.2) (refused c.args.b.now (λ i. (c.type_inv.b i).fits) c.in_err-check_first.field-0.0 e)

pub returns : goal.returns
returns c =
    found c.args.b.now c.in_ok-block.block.now (λ i. (c.type_inv.b i).fits) c.in_ok-block.ensures.block
    c.in_ok-check_first.ensures c.read_fields.ensures
