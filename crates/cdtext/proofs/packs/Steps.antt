-- Facts on parts of a buffer that the proofs share.
use mathlib.Core.Path.{◌≡◌, sym, ap, ◌∙◌}
use mathlib.Core.List.{List, ◌++◌}
use Prim.Native.Nat.{ℕ, ◌+◌}
use lib.ListN.{length, take, drop}
use lib.Seq.{drop-drop, take_at, drop_at}

-- n more bytes behind the first a, which are done
pub put_more : (done p d out out' : List ℕ) (a n : ℕ) → length done ≡ a → out ≡ done ++ drop a d → out' ≡ take a out ++ p ++ drop (a + n) out → out' ≡ done ++ p ++ drop (a + n) d
put_more done p d out out' a n e eo ep =
    let t : take a out ≡ done = ap (take a) eo ∙ take_at done (drop a d) a e in
    let r : drop (a + n) out ≡ drop (a + n) d =
    sym (drop-drop n a out) ∙ ap (λ (x : List ℕ). drop n (drop a x)) eo ∙ ap (drop n) (drop_at done (drop a d) a e) ∙ drop-drop n a d in
    ep ∙ rw (t, r)
