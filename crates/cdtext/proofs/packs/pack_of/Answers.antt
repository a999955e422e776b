use mathlib.Core.Path.{◌∙◌, refl}
use native.Mathlib.Omega.{arith}
use Rattle.cdtext.proofs.packs.Sealing.{pack_is}
use Rattle.cdtext.proofs.packs.pack_of.Goals as goal

pub returns : goal.returns
returns c =
    let a = c.args in
    pack_is a.sort a.track a.number a.position a.text.now c.copy_from_slice.new.self c.copy_from_slice-2.new.self c.copy_from_slice-3.new.self _ c.check_of-check.result c.requires c.copy_from_slice.ensures.after (omega arith) c.copy_from_slice-2.ensures.after c.check_of-check.ensures (omega arith) (c.copy_from_slice-3.ensures.after ∙ rw c.to_be_bytes.ensures refl)
