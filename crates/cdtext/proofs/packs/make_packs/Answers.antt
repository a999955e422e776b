use mathlib.Core.Path.{◌≡◌, sym, subst, ◌∙◌}
use Prim.Native.Nat.{ℕ, ◌+◌}
use native.Mathlib.Omega.{arith}
use lib.ListN.{length}
use borrow.Author.Rules.{rules}
use Rattle.std.specs.Prelude.{Result, Err, Some, None}
use Rattle.cdtext.specs.declared.refusals.Refusal.{Refusal}
use Rattle.cdtext.specs.declared.refusals.Refusal.TheVariants.{TitleNotAllowed, TooManyPacks}
use Rattle.cdtext.specs.Bench.{ExamplePacks}
use Rattle.cdtext.specs.Packs.{MakesPacks}
use Rattle.cdtext.proofs.Bench.{example_packs}
use Rattle.cdtext.proofs.packs.Making.{counted, none, too_many, passed, fits, refused, too_short, filled, makes}
use Rattle.cdtext.proofs.packs.make_packs.Goals as goal

pub returns-in_err-titles : goal.returns-in_err-titles
returns-in_err-titles c =
    let run = c.args.run.now in
    let d = c.args.out.now in
    let n : c.count_titles.result ≡ None = grind arith in
    let r : c.from_residual.result ≡ Err TitleNotAllowed = grind arith in
    subst (λ (x : Result ℕ Refusal). MakesPacks run x d d × ExamplePacks) (sym r) (makes (refused run TitleNotAllowed d (none run (sym c.count_titles.ensures ∙ n))), example_packs)

pub returns-then-run-gt-LONGEST_RUN : goal.returns-then-run-gt-LONGEST_RUN
returns-then-run-gt-LONGEST_RUN c =
    let t : c.count_titles.result ≡ Some c.in_ok-titles.titles = grind arith in
    let w = counted c.args.run.now c.in_ok-titles.titles (sym c.count_titles.ensures ∙ t) in
    (makes (refused c.args.run.now TooManyPacks c.args.out.now (too_many c.args.run.now w.0 c.if-run-gt-LONGEST_RUN.true)), example_packs)

pub returns-then-out-n : goal.returns-then-out-n
returns-then-out-n c =
    let t : c.count_titles.result ≡ Some c.in_ok-titles.titles = grind arith in
    let w = counted c.args.run.now c.in_ok-titles.titles (sym c.count_titles.ensures ∙ t) in
    (makes (too_short c.args.run.now c.args.out.now (passed c.args.run.now w.0 c.if-run-gt-LONGEST_RUN.false) (search rules)), example_packs)

pub put_packs-requires : goal.put_packs-requires
put_packs-requires c =
    let t : c.count_titles.result ≡ Some c.in_ok-titles.titles = grind arith in
    let w = counted c.args.run.now c.in_ok-titles.titles (sym c.count_titles.ensures ∙ t) in
    (fits c.args.run.now (length c.args.out.now) w.0 c.if-run-gt-LONGEST_RUN.false (search rules), w.1)

pub returns : goal.returns
returns c =
    let t : c.count_titles.result ≡ Some c.in_ok-titles.titles = grind arith in
    let w = counted c.args.run.now c.in_ok-titles.titles (sym c.count_titles.ensures ∙ t) in
    (makes (filled c.args.run.now c.args.out.now c.put_packs.new.out (c.packs_for-n.result + 3) (passed c.args.run.now w.0 c.if-run-gt-LONGEST_RUN.false) (search rules) (search rules) c.put_packs.ensures), example_packs)
