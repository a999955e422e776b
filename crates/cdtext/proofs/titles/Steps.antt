-- Counting titles: what one more byte of a run brings.
use mathlib.Core.Path.{◌≡◌, refl, sym, ap, ◌∙◌}
use mathlib.Core.List.{List, ◌∷◌}
use Rattle.std.specs.Prelude.{Option, Some, None}
use mathlib.Core.Bool.{Bool, true, false, ◌&&◌}
use Prim.Native.Nat.{ℕ, ◌+◌, ◌≤◌, ◌<◌}
use native.Mathlib.Omega.{arith}
use lib.Dec.{eqb, leb}
use lib.ListN.{length, get_or, drop, drop_of_length-le}
use borrow.Author.Tests.{eq-eqb, ne_eqb}
use Rattle.basics.specs.Bytes.{if}
use Rattle.basics.proofs.Tests.{known}
use Rattle.basics.proofs.Lists.{drop_next}
use Rattle.cdtext.specs.Titles.{is_character, title_length, titles_from, title_count, most_titles, allowed}

-- the first i bytes have been read: they end n titles, and c characters of the next stand among them
pub record Counting (run : List ℕ) (n c i : ℕ) : Type 0 where
  pub reach : i ≤ length run
  pub titles : n ≤ i
  pub characters : c ≤ i
  pub goes : titles_from c (drop i run) ≡ titles_from 0 run
  pub counts : n + title_count (drop i run) ≡ title_count run

pub start : (run : List ℕ) → Counting run 0 0 0
start run = record { reach = omega arith; titles = omega arith; characters = omega arith; goes = refl; counts = omega arith }

-- whether a byte may stand behind c characters of a title, and how many have come behind it
abbrev pub may : ℕ → ℕ → Bool
may c x = if (eqb x 0) (title_length c) (is_character x)

abbrev pub after : ℕ → ℕ → ℕ
after c x = if (eqb x 0) 0 (c + 1)

from_cons : (c x : ℕ) (xs : List ℕ) → titles_from c (x ∷ xs) ≡ (may c x && titles_from (after c x) xs)
unfolding titles_from
from_cons c x xs = known (eqb x 0) (λ e. rw e) (λ e. rw e)

from_next : (c : ℕ) (run : List ℕ) (i : ℕ) → i < length run → titles_from c (drop i run) ≡ (may c (get_or run i 0) && titles_from (after c (get_or run i 0)) (drop (i + 1) run))
from_next c run i h = ap (titles_from c) (drop_next run i h) ∙ from_cons c (get_or run i 0) (drop (i + 1) run)

count_next : (run : List ℕ) (i : ℕ) → i < length run → title_count (drop i run) ≡ if (eqb (get_or run i 0) 0) 1 0 + title_count (drop (i + 1) run)
unfolding title_count
count_next run i h = ap title_count (drop_next run i h)

-- one more character
pub more : (run : List ℕ) (n c i : ℕ) → Counting run n c i → i < length run → may c (get_or run i 0) ≡ true → (get_or run i 0 ≡ 0 → ⊥) → Counting run n (c + 1) (i + 1)
more run n c i v h m z =
    let e = ne_eqb (get_or run i 0) 0 z in
    record {
      reach = omega arith;
      titles = let t = v.titles in omega arith;
      characters = let t = v.characters in omega arith;
      goes = sym (from_next c run i h ∙ rw (m, e)) ∙ v.goes;
      counts = let t = v.counts in let q = count_next run i h in omega (arith, rw e at q);
    }

-- a zero that ends a title
pub ends : (run : List ℕ) (n c i : ℕ) → Counting run n c i → i < length run → may c (get_or run i 0) ≡ true → get_or run i 0 ≡ 0 → Counting run (n + 1) 0 (i + 1)
ends run n c i v h m z =
    let e = eq-eqb (get_or run i 0) 0 z in
    record {
      reach = omega arith;
      titles = let t = v.titles in omega arith;
      characters = omega arith;
      goes = sym (from_next c run i h ∙ rw (m, e)) ∙ v.goes;
      counts = let t = v.counts in let q = count_next run i h in omega (arith, rw e at q);
    }

-- ---- the answer

abbrev pub found : List ℕ → Option ℕ
found run = if (allowed run) (Some (title_count run)) None

not_from : (run : List ℕ) → titles_from 0 run ≡ false → None ≡ found run
unfolding allowed
not_from run e = rw e

-- a byte that may not stand there
pub stopped : (run : List ℕ) (n c i : ℕ) → Counting run n c i → i < length run → may c (get_or run i 0) ≡ false → None ≡ found run
stopped run n c i v h m =
    not_from run (sym v.goes ∙ from_next c run i h ∙ ap (λ (b : Bool). b && titles_from (after c (get_or run i 0)) (drop (i + 1) run)) m)

from_end : (run : List ℕ) (n c i : ℕ) → Counting run n c i → length run ≤ i → titles_from 0 run ≡ eqb c 0
unfolding titles_from
from_end run n c i v h = sym v.goes ∙ ap (titles_from c) (drop_of_length-le run h)

count_end : (run : List ℕ) (n c i : ℕ) → Counting run n c i → length run ≤ i → n ≡ title_count run
unfolding title_count
count_end run n c i v h = let t = v.counts in omega (arith, ap title_count (drop_of_length-le run h))

-- a title without its zero
pub unended : (run : List ℕ) (n c i : ℕ) → Counting run n c i → length run ≤ i → (c ≡ 0 → ⊥) → None ≡ found run
unended run n c i v h k = not_from run (from_end run n c i v h ∙ ne_eqb c 0 k)

-- all titles are ended: they are no title, or too many, or allowed
pub ended : (run : List ℕ) (n c i : ℕ) → Counting run n c i → length run ≤ i → c ≡ 0 → if (leb 1 n && leb n most_titles) (Some n) None ≡ found run
unfolding allowed
ended run n c i v h k =
    rw (from_end run n c i v h, eq-eqb c 0 k, count_end run n c i v h)
