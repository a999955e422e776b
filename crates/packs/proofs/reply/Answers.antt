use mathlib.Core.Path.{ap, ◌∙◌}
use native.Mathlib.Omega.{arith}
use Rattle.packs.specs.Answers.{answer_to}
use Rattle.packs.specs.Requests.{number_of}
use Rattle.packs.proofs.Heads.{limits, answer_said}
use Rattle.packs.proofs.Steps.{cleared}
use Rattle.packs.proofs.reply.Goals as goal

pub put_answer-requires : goal.put_answer-requires
put_answer-requires c = (omega arith, omega (arith, (limits _ _ c.requires.0).0))

pub send-requires : goal.send-requires
send-requires c =
    let r = c.args.request in
    let t = cleared c.fill.new.self _ 165 r.room (c.requires.2 ∙ omega arith) (c.fill.ensures.after (λ y k. k)) in
    (c.requires.1, answer_said _ _ _ r c.requires.0 (c.put_answer.ensures ∙ ap (answer_to (number_of r.operation) c.args.payload.now) t))
