use mathlib.Core.Path.{◌∙◌}
use Rattle.recorder.proofs.answers.Laws.{short, filled, unfilled}
use Rattle.recorder.proofs.answers.cdb_of.Goals as goal

pub returns-in-Ok : goal.returns-in-Ok
returns-in-Ok c =
    let o = c.args.o.now in
    filled _ _ (short o.immed o.count c.args.c.address c.args.c.op) c.in-Ok.is c.make_command.ensures

pub returns-in-Err : goal.returns-in-Err
returns-in-Err c =
    let o = c.args.o.now in
    c.no_cdb.ensures ∙ unfilled _ _ (short o.immed o.count c.args.c.address c.args.c.op) c.in-Err.is c.make_command.ensures
