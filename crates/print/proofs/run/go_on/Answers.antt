use mathlib.Core.Path.{◌≡◌, sym, ◌∙◌}
use Prim.Native.Nat.{◌<◌}
use borrow.Author.Rules.{rules}
use lib.ListN.{length}
use Rattle.std.proofs.lemmas.Bool.{eqb-true}
use Rattle.print.proofs.run.Laws.{goes_on, read_none, read_some}
use Rattle.print.proofs.run.go_on.Goals as goal

pub returns-then-is_empty : goal.returns-then-is_empty
returns-then-is_empty c =
    let w = c.wait.ensures in
    let a = c.args in
    let none : length a.input.now ≡ 0 = eqb-true _ 0 (sym c.is_empty.ensures ∙ c.if-is_empty.true) in
    goes_on a.run.state a.input.now (record {
      stage = w.stage ∙ read_none a.run.state a.input.now none;
      room = w.room;
    })

pub returns : goal.returns
returns c =
    let f = c.feed.ensures in
    let a = c.args in
    let some : 0 < length a.input.now = search rules in
    goes_on a.run.state a.input.now (record {
      stage = f.stage ∙ read_some a.run a.text.now a.input.now c.requires.0 c.requires.1 some;
      room = f.room;
    })
