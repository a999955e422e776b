use mathlib.Core.Path.{◌≡◌, sym, ap, ◌∙◌}
use mathlib.Core.Bool.{Bool, true, false, ◌&&◌}
use lib.Dec.{leb}
use Rattle.std.specs.Prelude.{Some, None}
use Rattle.basics.specs.Bytes.{if}
use Rattle.cdtext.specs.Titles.{most_titles}
use native.Mathlib.Omega.{arith}
use borrow.Author.Rules.{rules}
use Rattle.cdtext.proofs.titles.Steps.{start, more, ends, stopped, unended, ended}
use Rattle.cdtext.proofs.titles.count_titles.Goals as goal
use Rattle.cdtext.proofs.titles.count_titles.Goals.{then-x-eq0, else-x-eq0, else-characters-eq0-via-then-characters-eq0+else-contains, else-characters-eq0-via-else-characters-eq0}

pub loop-x-init : goal.loop-x-init
loop-x-init c = start c.args.run.now

pub returns-then-not-goes_on : goal.returns-then-not-goes_on
returns-then-not-goes_on c =
    let v = c.loop-x in
    stopped c.args.run.now v.titles v.characters v.x-index v.invariant (omega arith) (sym c.goes_on.ensures ∙ c.if-not-goes_on.true)

pub loop-x-preserved : goal.loop-x-preserved
loop-x-preserved c =
    let v = c.loop-x in
    let m = sym c.goes_on.ensures ∙ c.if-not-goes_on.false in
    elim c.if-x-eq0.branch [ then-x-eq0 w ↦ rw (w.titles-is, w.characters-is) (ends c.args.run.now v.titles v.characters v.x-index v.invariant (omega arith) m w.if-x-eq0.true) | else-x-eq0 w ↦ rw (w.titles-is, w.characters-is) (more c.args.run.now v.titles v.characters v.x-index v.invariant (omega arith) m w.if-x-eq0.false) ]

pub returns-then-contains : goal.returns-then-contains
returns-then-contains c =
    let v = c.loop-x in
    let t : leb 1 v.titles && leb v.titles most_titles ≡ true = search rules in
    ap (λ (b : Bool). if b (Some v.titles) None) (sym t) ∙ ended c.args.run.now v.titles v.characters v.x-index v.invariant (omega arith) c.if-characters-eq0.true

pub returns-else-characters-eq0 : goal.returns-else-characters-eq0
returns-else-characters-eq0 c =
    let v = c.loop-x in
    elim c.else-characters-eq0.branch [
      | else-characters-eq0-via-then-characters-eq0+else-contains w ↦
          let t : leb 1 v.titles && leb v.titles most_titles ≡ false = search rules in
          ap (λ (b : Bool). if b (Some v.titles) None) (sym t) ∙ ended c.args.run.now v.titles v.characters v.x-index v.invariant (omega arith) w.if-characters-eq0.true
      | else-characters-eq0-via-else-characters-eq0 w ↦ unended c.args.run.now v.titles v.characters v.x-index v.invariant (omega arith) w.if-characters-eq0.false
    ]
