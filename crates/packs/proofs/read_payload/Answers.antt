use mathlib.Core.Path.{sym, ◌∙◌}
use Rattle.packs.proofs.Heads.{payload_next}
use Rattle.packs.proofs.read_payload.Goals as goal

pub receive-got-requires : goal.receive-got-requires
receive-got-requires c = c.requires.1 ∙ sym (payload_next _ _ c.requires.0)
