use mathlib.Core.Path.{sym, ◌∙◌}
use Prim.Native.Nat.{◌+◌, ◌-◌, ◌*◌, ◌/◌}
use native.Mathlib.Omega.{arith}
use lib.ListN.{length}
use lib.Seq.{length-take-le}
use Rattle.cdtext.proofs.packs.Runs.{sized, run_is, run_ends, refused, not_size, reads}
use Rattle.cdtext.proofs.packs.read_packs.Goals as goal

pub returns-then-not-packs_size : goal.returns-then-not-packs_size
returns-then-not-packs_size c =
    let b = c.args.b.now in
    reads (refused b c.args.out.now (not_size b (sym c.packs_size.ensures ∙ c.if-not-packs_size.true)))

pub overflow_sub-n : goal.overflow_sub-n
overflow_sub-n c = omega (arith, (sized _ (sym c.packs_size.ensures ∙ c.if-not-packs_size.false)).0)

pub put_text-requires : goal.put_text-requires
put_text-requires c =
    let w = sized _ (sym c.packs_size.ensures ∙ c.if-not-packs_size.false) in
    (omega arith, omega (arith, w.1))

pub slice_bounds-text-end : goal.slice_bounds-text-end
slice_bounds-text-end c = omega (arith, (sized _ (sym c.packs_size.ensures ∙ c.if-not-packs_size.false)).1, c.put_text.auto.text)

pub slice_bounds-trimmed_length-end : goal.slice_bounds-trimmed_length-end
slice_bounds-trimmed_length-end c =
    sym (length-take-le (12 * (length c.args.b.now / 18 - 3)) c.put_text.new.text (omega (arith, (sized _ (sym c.packs_size.ensures ∙ c.if-not-packs_size.false)).1, c.put_text.auto.text)))

pub overflow_add-end : goal.overflow_add-end
overflow_add-end c =
    omega (arith, run_ends c.args.b.now c.put_text.new.text c.trimmed_length-end.result (sym c.packs_size.ensures ∙ c.if-not-packs_size.false) c.put_text.ensures c.trimmed_length-end.ensures)

pub slice_bounds-text-end-2 : goal.slice_bounds-text-end-2
slice_bounds-text-end-2 c =
    omega (arith, run_ends c.args.b.now c.put_text.new.text c.trimmed_length-end.result (sym c.packs_size.ensures ∙ c.if-not-packs_size.false) c.put_text.ensures c.trimmed_length-end.ensures, c.put_text.auto.text)

pub read_run-requires : goal.read_run-requires
read_run-requires c =
    let good = sym c.packs_size.ensures ∙ c.if-not-packs_size.false in
    (good, run_is c.args.b.now c.put_text.new.text c.trimmed_length-end.result good c.put_text.ensures c.trimmed_length-end.ensures)

pub returns : goal.returns
returns c = reads c.read_run.ensures

pub slice_bounds-read_run-end : goal.slice_bounds-read_run-end
slice_bounds-read_run-end c =
    sym (length-take-le (c.trimmed_length-end.result + 1) c.put_text.new.text (omega (arith, run_ends c.args.b.now c.put_text.new.text c.trimmed_length-end.result (sym c.packs_size.ensures ∙ c.if-not-packs_size.false) c.put_text.ensures c.trimmed_length-end.ensures, c.put_text.auto.text)))
