use mathlib.Core.Path.{◌∙◌}
use borrow.Author.Rules.{rules}
use Rattle.cdtext.proofs.packs.Runs.{refused, by_packs, filled}
use Rattle.cdtext.proofs.packs.read_run.Goals as goal

pub returns-then-not-gives : goal.returns-then-not-gives
returns-then-not-gives c =
    let a = c.args in
    refused a.b.now a.out.now (by_packs a.b.now a.run.now c.gives.result c.requires.0 c.requires.1 c.gives.ensures ∙ c.if-not-gives.true)

pub returns : goal.returns
returns c =
    let a = c.args in
    filled a.b.now a.run.now a.out.now c.fill.new.out c.fill.result c.map_err.result (by_packs a.b.now a.run.now c.gives.result c.requires.0 c.requires.1 c.gives.ensures ∙ c.if-not-gives.false) c.requires.1 c.fill.ensures (search rules)
