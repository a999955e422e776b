use mathlib.Core.Path.{◌≡◌, ap, ◌∙◌}
use mathlib.Core.List.{[]}
use Prim.Native.Nat.{min}
use lib.ListN.{length}
use native.Mathlib.Omega.{arith}
use borrow.Author.Rules.{rules}
use Rattle.recorder.specs.Job.{Next, next_in}
use Rattle.print.specs.Run.{stage_in, answered_of}
use Rattle.print.proofs.run.Laws.{begun, begins}
use Rattle.print.proofs.run.begin.Goals as goal

pub returns : goal.returns
returns c =
    let f = c.feed in
    let p = c.split_at in
    let run = c.add_line-run in
    let s = c.args.input.now in
    let first : c.min.result ≡ min (length s) 512 = search rules in
    let at = stage_in run.result run.new.text in
    let line : at ≡ answered_of (next_in c.take.result) [] = search rules in
    let order = line ∙ ap (λ (n : Next). answered_of n []) c.take.ensures.step in
    let first_run = begun s p.result.0.now p.result.1.now c.min.result at first p.ensures.front p.ensures.back order in
    begins s (record {
      stage = f.ensures.stage ∙ first_run;
      room = omega (arith, f.ensures.room, run.auto.text);
    })
