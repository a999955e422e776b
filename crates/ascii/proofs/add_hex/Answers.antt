use native.Mathlib.Omega.{arith}
use Rattle.ascii.specs.Text.{parted}
use Rattle.ascii.proofs.Laws.{unfitting}
use Rattle.ascii.proofs.Bench.{example_codes}
use Rattle.ascii.proofs.Hex.{parted_size, parted_short}
use Rattle.ascii.proofs.add_hex.Goals as goal

pub returns-then-out-at : goal.returns-then-out-at
returns-then-out-at c =
    let a = c.args in
    (unfitting (parted a.bytes.now) a.out.now a.at (omega arith), parted_short a.bytes.now, example_codes)

pub returns-then-room-bytes : goal.returns-then-room-bytes
returns-then-room-bytes c =
    let a = c.args in
    let n = parted_size a.bytes.now (omega arith) in
    (unfitting (parted a.bytes.now) a.out.now a.at (omega arith), parted_short a.bytes.now, example_codes)

pub returns : goal.returns
returns c = (c.put_hex.ensures, parted_short c.args.bytes.now, example_codes)
