use Rattle.std.proofs.Common.{◌≡◌, arith, rules, true, false, get_or, take, drop, leb}
use Rattle.std.proofs.Math.Bool.{and-false}
use Rattle.basics.specs.Bytes.{all_zero}
use Rattle.std.proofs.lemmas.Bool.{and_parts}
use borrow.Author.Tests.{tests, eq-eqb, ne_eqb, le-leb, lt-leb}
use Rattle.mmc.specs.Order.{valid_order}
use Rattle.mmc.specs.OrderBlock.{last_method, order_ok, head_ok, fields_of, keep_of, protect_of, immed_of, erase_of}
use Rattle.mmc.proofs.order_block.Listed.{was_listed, left}
use Rattle.mmc.proofs.order_block.read_fields.Goals as goal
use Rattle.mmc.proofs.order_block.read_fields.Goals.{then-b-ne1-via-then-b-ne1, then-b-ne1-via-else-b-ne1+then-flags-gt-LAST_FLAGS, then-b-ne1-via-else-b-ne1+else-flags-gt-LAST_FLAGS+then-not-all_zero}

pub returns-then-b-ne1 : goal.returns-then-b-ne1
unfolding order_ok head_ok
returns-then-b-ne1 c =
    let f : order_ok c.args.b.now ≡ false = elim c.then-b-ne1.branch [
      | then-b-ne1-via-then-b-ne1 w ↦ simp (ne_eqb _ _ w.if-b-ne1.true)
      | then-b-ne1-via-else-b-ne1+then-flags-gt-LAST_FLAGS w ↦
          simp (lt-leb _ _ w.if-flags-gt-LAST_FLAGS.true, and-false)
      | then-b-ne1-via-else-b-ne1+else-flags-gt-LAST_FLAGS+then-not-all_zero w ↦
          let z : all_zero (take 10 (drop 500 c.args.b.now)) ≡ false = search (rules, tests) in
          simp (z, and-false)
    ] in
    simp f

pub returns-in_err-try_from : goal.returns-in_err-try_from
unfolding order_ok head_ok
returns-in_err-try_from c = left _ _ c.from_residual.ensures.1 c.in_err-try_from.ensures (λ f. grind arith)

pub returns-in_err-try_from-2 : goal.returns-in_err-try_from-2
unfolding order_ok
returns-in_err-try_from-2 c =
    left _ _ c.from_residual-in_err-try_from-2.ensures.1 c.in_err-try_from-2.ensures (λ f. simp (f, and-false))

pub returns-in_err-tracks_of : goal.returns-in_err-tracks_of
unfolding order_ok
returns-in_err-tracks_of c =
    left _ _ c.from_residual-in_err-tracks_of.ensures.1 c.in_err-tracks_of.ensures (λ f. simp (f, and-false))

pub returns-then-not-is_valid : goal.returns-then-not-is_valid
unfolding order_ok fields_of keep_of protect_of immed_of erase_of
returns-then-not-is_valid c =
    let b = c.args.b.now in
    let m = was_listed _ _ _ c.in_ok-try_from.ensures in
    let q = was_listed _ _ _ c.in_ok-try_from-2.ensures in
    let t = was_listed _ _ _ c.in_ok-tracks_of.ensures in
    let v : c.is_valid.result ≡ valid_order (fields_of b) = simp (m.1, q.1, t.1) at c.is_valid.ensures in
    let n : valid_order (fields_of b) ≡ false = search (rules, tests) in
    let f : order_ok b ≡ false = simp (n, and-false) in
    simp f

pub returns : goal.returns
unfolding order_ok head_ok fields_of keep_of protect_of immed_of erase_of
returns c =
    let b = c.args.b.now in
    let m = was_listed _ _ _ c.in_ok-try_from.ensures in
    let q = was_listed _ _ _ c.in_ok-try_from-2.ensures in
    let t = was_listed _ _ _ c.in_ok-tracks_of.ensures in
    let v : c.is_valid.result ≡ valid_order (fields_of b) = simp (m.1, q.1, t.1) at c.is_valid.ensures in
    let n : valid_order (fields_of b) ≡ true = search (rules, tests) in
    let z : all_zero (take 10 (drop 500 b)) ≡ true = search (rules, tests) in
    let a = and_parts (leb 1 (get_or b 1 0)) (leb (get_or b 1 0) last_method) m.0 in
    let f : order_ok b ≡ true =
    simp (eq-eqb _ _ c.if-b-ne1.false, a.0, a.1, le-leb _ _ c.if-flags-gt-LAST_FLAGS.false, t.0, n, q.0, z) in
    rw (f, m.1, q.1, t.1)
