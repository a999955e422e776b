use mathlib.Core.Path.{refl}
use native.Mathlib.Omega.{arith}
use Rattle.print.proofs.run.Laws.{few, added}
use Rattle.print.proofs.run.add_line.Goals as goal

pub overflow_add-result : goal.overflow_add-result
overflow_add-result c =
    let line = c.answer_line-line in
    omega (arith, c.unwrap_or.ensures, few c.args.text.now c.args.used line.result c.requires line.ensures)

pub returns : goal.returns
returns c =
    let line = c.answer_line-line in
    let few = few c.args.text.now c.args.used line.result c.requires line.ensures in
    record {
      state = refl;
      line = record {
        waiting = c.is_command.ensures;
        text = rw c.unwrap_or.ensures (added c.args.text.now c.args.used line.result _ c.requires line.ensures);
        room = omega (arith, c.unwrap_or.ensures, few);
      };
    }
