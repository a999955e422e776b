use mathlib.Core.Path.{refl, ap, ◌∙◌}
use mathlib.Core.List.{List, ◌++◌}
use Prim.Native.Nat.{ℕ, ◌-◌}
use lib.ListN.{length, drop}
use borrow.Rule.Slice.PartMut.{put_mid}
use Rattle.packs.specs.Answers.{bytes_of}
use Rattle.packs.specs.Requests.{number_of}
use Rattle.packs.proofs.Steps.{whole_answer}
use Rattle.packs.proofs.put_answer.Goals as goal

pub returns : goal.returns
returns c =
    let a = c.args in
    let o = c.done-outcome in
    ap (λ (h : List ℕ). h ++ drop 3 (put_mid 3 (length a.out.now - 3) a.out.now o.new.lent)) (c.copy_from_slice.ensures.after ∙ c.head_of.ensures)
    ∙ whole_answer a.out.now o.new.lent a.payload.now (bytes_of o.result) (length a.out.now - 3) (number_of a.operation) c.requires.0 refl o.ensures
