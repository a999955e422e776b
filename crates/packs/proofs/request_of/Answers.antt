use native.Mathlib.Omega.{arith}
use Rattle.packs.proofs.Heads.{held, no_room, no_size, no_operation, not_five}
use Rattle.packs.proofs.request_of.Goals as goal

pub returns-then-head-ne5 : goal.returns-then-head-ne5
returns-then-head-ne5 c = not_five c.args.head.now c.if-head-ne5.true

pub returns-in-Ok : goal.returns-in-Ok
returns-in-Ok c =
    held c.args.head.now _ _ c.if-head-ne5.false c.number16-room.ensures.0 c.number16-size.ensures.0 c.in-Ok.operation c.in-Ok.ensures (omega arith) (omega arith)

pub returns-in_default : goal.returns-in_default
returns-in_default c = no_size c.args.head.now _ _ c.if-head-ne5.false c.number16-room.ensures.0 c.number16-size.ensures.0 (omega arith)

pub returns-in_default-2 : goal.returns-in_default-2
returns-in_default-2 c = no_room c.args.head.now _ _ c.if-head-ne5.false c.number16-room.ensures.0 c.number16-size.ensures.0 (omega arith)

pub returns-in_default-3 : goal.returns-in_default-3
returns-in_default-3 c = no_operation c.args.head.now _ _ c.if-head-ne5.false c.number16-room.ensures.0 c.number16-size.ensures.0 c.in_default.field-0 c.in_default.ensures
