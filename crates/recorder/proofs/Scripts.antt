-- Laws of the script: its length, its blocks, and that each of its operations is a closing command or comes before one.
use mathlib.Core.Path.{◌≡◌, refl, sym, ap, ◌∙◌}
use mathlib.Core.Bool.{Bool, false, ◌||◌}
use mathlib.Core.List.{List, [], ◌∷◌, ◌++◌}
use Prim.Native.Nat.{ℕ, zero, suc, ◌+◌, ◌-◌, ◌*◌, ◌≤◌}
use native.Mathlib.Omega.{arith}
use lib.Dec.{eqb}
use lib.ListN.{length, length-append}
use Rattle.mmc.specs.Order.{tracks_in}
use Rattle.mmc.specs.Times.{lead_frames}
use Rattle.mmc.specs.declared.order.Order.{Order}
use Rattle.mmc.specs.declared.order.Track.{Track}
use Rattle.mmc.specs.declared.order.Method.{Method}
use Rattle.mmc.specs.declared.order.Method.TheVariants.{Tao, Sao}
use Rattle.mmc.specs.declared.order.Recipe.{Recipe}
use Rattle.mmc.specs.declared.order.Recipe.TheVariants.{Old, New}
use Rattle.recorder.specs.declared.script.Op.{Op}
use Rattle.recorder.specs.declared.script.Op.TheVariants.{GetConfiguration, ReadDiscInformation, ReadTrackInformation, ModeSelect, SendCueSheet, SynchronizeCache, CloseTrack}
use Rattle.recorder.specs.Script.{code, is_erasing, gather, portion, writes_for, writes, writes_from, close_by, before_tracks, each_track, script, writes_in, expected_by, expected, Block, blocks, blocks_from, ordered, blocks_in}
use Rattle.recorder.proofs.Lists.{gather_append, blocks_split}
use Rattle.recorder.proofs.Plans.{Unclosed, Scripted, Calm, scripted_before}

-- the order with a method: its own gives it back
abbrev pub by : Order → Method → Order
by o m = record { method = m; keep = o.keep; protect = o.protect; immed = o.immed; erase = o.erase; recipe = o.recipe; count = o.count; tracks = o.tracks }

-- ---- length

writes_length : (t l f k : ℕ) → length (writes t l f k) ≡ k
writes_length t l f zero = refl
writes_length t l f (suc k) = ap suc (writes_length t l (f + portion l f) k)

all_length : (t l : ℕ) (after : List Op) → length (writes_from t l 0 ++ after) ≡ writes_for l + length after
all_length t l after =
    let a : length (writes_from t l 0 ++ after) ≡ length (writes_from t l 0) + length after = length-append (writes_from t l 0) after in
    let b : length (writes_from t l 0) ≡ writes_for (l - 0) = writes_length t l 0 (writes_for (l - 0)) in
    omega arith

-- how many 5Bh function 1 close n tracks
abbrev closes_of : Recipe → ℕ → ℕ
closes_of Old n = n
closes_of New n = 0

closes_one : (q : Recipe) (t n : ℕ) (l : List Op) → length (close_by q t l) + closes_of q n ≡ length l + closes_of q (suc n)
closes_one Old t n l = omega arith
closes_one New t n l = refl

tao_length : (o : Order) (t : ℕ) (xs : List Track) → length (each_track (by o Tao) t xs) ≡ 3 * length xs + closes_of o.recipe (length xs) + 1 + writes_in xs
tao_length o t [] = go o.recipe
  where
    go : (q : Recipe) → 1 ≡ 0 + closes_of q 0 + 1 + 0
    go Old = refl
    go New = refl
tao_length o t (x ∷ xs) =
    let a = all_length (suc t) x.length.0 (SynchronizeCache (record { 0 = suc t }) ∷ close_by o.recipe (suc t) (each_track (by o Tao) (suc t) xs)) in
    let c = closes_one o.recipe (suc t) (length xs) (each_track (by o Tao) (suc t) xs) in
    let i = tao_length o (suc t) xs in
    omega arith

sao_length : (o : Order) (t : ℕ) (xs : List Track) → length (each_track (by o Sao) t xs) ≡ 1 + writes_in xs
sao_length o t [] = refl
sao_length o t (x ∷ xs) =
    let a = all_length (suc t) x.length.0 (each_track (by o Sao) (suc t) xs) in
    let i = sao_length o (suc t) xs in
    omega arith

pub script_length : (o : Order) → length (tracks_in o) ≡ o.count → length (script o) ≡ expected o
script_length o n = go o.method
  where
    tao : (q : Recipe) → 3 * o.count + closes_of q o.count + 3 + writes_in (tracks_in o) ≡ expected_by Tao q o.count (writes_in (tracks_in o))
    tao Old = omega arith
    tao New = omega arith

    go : (m : Method) → length (script (by o m)) ≡ expected_by m o.recipe o.count (writes_in (tracks_in o))
    go Tao = let b = tao_length o 0 (tracks_in o) in let c = tao o.recipe in let k = ap (closes_of o.recipe) n in omega arith
    go Sao = let a = all_length 0 lead_frames (each_track (by o Sao) 0 (tracks_in o)) in let b = sao_length o 0 (tracks_in o) in omega arith

-- ---- blocks

writes_blocks : (t l f k : ℕ) → k ≡ writes_for (l - f) → gather blocks_in (writes (suc t) l f k) ≡ blocks (suc t) f (l - f)
writes_blocks t l f zero e = let z : 0 ≡ l - f = omega arith in ap (λ (m : ℕ). blocks (suc t) f m) z
writes_blocks t l f (suc k) e =
    let c : ℕ = portion l f in
    let i : gather blocks_in (writes (suc t) l (f + c) k) ≡ blocks (suc t) (f + c) (l - (f + c)) = writes_blocks t l (f + c) k (omega arith) in
    let q : c + (l - (f + c)) ≡ l - f = omega arith in
    ap (λ (m : List Block). blocks (suc t) f c ++ m) i ∙ sym (blocks_split (suc t) f c (l - (f + c))) ∙ ap (λ (m : ℕ). blocks (suc t) f m) q

-- the pause has none
pause_blocks : (l f k : ℕ) → gather blocks_in (writes 0 l f k) ≡ []
pause_blocks l f zero = refl
pause_blocks l f (suc k) = pause_blocks l (f + portion l f) k

part : (xs ys : List Op) (x : List Block) → gather blocks_in xs ≡ x → gather blocks_in (xs ++ ys) ≡ x ++ gather blocks_in ys
part xs ys x e = gather_append blocks_in xs ys ∙ ap (λ (m : List Block). m ++ gather blocks_in ys) e

-- one track's blocks before the others'
track_blocks_lem : (t l : ℕ) (ys : List Op) (zs : List Block) → gather blocks_in ys ≡ zs → gather blocks_in (writes_from (suc t) l 0 ++ ys) ≡ blocks (suc t) 0 l ++ zs
track_blocks_lem t l ys zs e =
    let z : l - 0 ≡ l = omega arith in
    part (writes_from (suc t) l 0) ys _ (writes_blocks t l 0 (writes_for (l - 0)) refl ∙ ap (λ (m : ℕ). blocks (suc t) 0 m) z) ∙
    ap (λ (m : List Block). blocks (suc t) 0 l ++ m) e

-- 5Bh records none
close_blocks : (q : Recipe) (t : ℕ) (l : List Op) → gather blocks_in (close_by q t l) ≡ gather blocks_in l
close_blocks Old t l = refl
close_blocks New t l = refl

pub each_blocks : (m : Method) (o : Order) (t : ℕ) (xs : List Track) → gather blocks_in (each_track (by o m) t xs) ≡ blocks_from t xs
each_blocks Tao o t [] = refl
each_blocks Sao o t [] = refl
each_blocks Tao o t (x ∷ xs) = track_blocks_lem t x.length.0 _ _ (close_blocks o.recipe (suc t) _ ∙ each_blocks Tao o (suc t) xs)
each_blocks Sao o t (x ∷ xs) = track_blocks_lem t x.length.0 _ _ (each_blocks Sao o (suc t) xs)

pub script_blocks : (o : Order) → gather blocks_in (script o) ≡ ordered o
script_blocks o = go o.method
  where
    go : (m : Method) → gather blocks_in (script (by o m)) ≡ ordered o
    go Tao = each_blocks Tao o 0 (tracks_in o)
    go Sao = part (writes_from 0 lead_frames 0) (each_track (by o Sao) 0 (tracks_in o)) [] (pause_blocks lead_frames 0 (writes_for (lead_frames - 0))) ∙ each_blocks Sao o 0 (tracks_in o)

-- ---- no 51h and no A1h but the opening's

abbrev pub is_of_disc : Op → Bool
is_of_disc x = eqb (code x) 0x51 || is_erasing x

abbrev pub Past : List Op → Type 0
Past [] = Unit {0}
Past (x ∷ l) = (is_of_disc x ≡ false) × Past l

past_before : (xs l : List Op) → Past xs → Past l → Past (xs ++ l)
past_before [] l p q = q
past_before (x ∷ xs) l p q = (p.0, past_before xs l p.1 q)

writes_past : (t l f k : ℕ) → Past (writes t l f k)
writes_past t l f zero = tt
writes_past t l f (suc k) = (refl, writes_past t l (f + portion l f) k)

track_past : (t l : ℕ) (after : List Op) → Past after → Past (writes_from t l 0 ++ after)
track_past t l after p = past_before (writes_from t l 0) after (writes_past t l 0 (writes_for (l - 0))) p

close_past : (q : Recipe) (t : ℕ) (l : List Op) → Past l → Past (close_by q t l)
close_past Old t l p = (refl, p)
close_past New t l p = p

each_past : (m : Method) (o : Order) (t : ℕ) (xs : List Track) → Past (each_track (by o m) t xs)
each_past Tao o t [] = (refl, tt)
each_past Sao o t [] = (refl, tt)
each_past Tao o t (x ∷ xs) = (refl, (refl, track_past (suc t) x.length.0 _ (refl, close_past o.recipe (suc t) _ (each_past Tao o (suc t) xs))))
each_past Sao o t (x ∷ xs) = track_past (suc t) x.length.0 _ (each_past Sao o (suc t) xs)

pub script_past : (o : Order) → Past (before_tracks o (each_track o 0 (tracks_in o)))
script_past o = go o.method
  where
    go : (m : Method) → Past (before_tracks (by o m) (each_track (by o m) 0 (tracks_in o)))
    go Tao = each_past Tao o 0 (tracks_in o)
    go Sao = (refl, (refl, (refl, track_past 0 lead_frames (each_track (by o Sao) 0 (tracks_in o)) (each_past Sao o 0 (tracks_in o)))))

-- ---- closing commands, and no polls

one : 1 ≤ 1
one = omega arith

record Closes (l : List Op) : Type 0 where
  some : Unclosed l
  all : Scripted l

closes_before : (xs l : List Op) → Calm xs → Closes l → Closes (xs ++ l)
closes_before [] l k c = c
closes_before (x ∷ xs) l k c = let a = scripted_before (x ∷ xs) l k c.some c.all in record { some = a.0; all = a }

writes_calm : (t l f k : ℕ) → Calm (writes t l f k)
writes_calm t l f zero = tt
writes_calm t l f (suc k) = (refl, writes_calm t l (f + portion l f) k)

all_calm : (t l : ℕ) → Calm (writes_from t l 0)
all_calm t l = writes_calm t l 0 (writes_for (l - 0))

-- 35h, and by the old recipe 5Bh function 1
closes_track : (q : Recipe) (t : ℕ) (l : List Op) → Closes l → Closes (SynchronizeCache (record { 0 = t }) ∷ close_by q t l)
closes_track Old t l c =
    let s = c.some in
    let a : Unclosed (CloseTrack (record { 0 = t }) ∷ l) = omega arith in
    let b : Unclosed (SynchronizeCache (record { 0 = t }) ∷ CloseTrack (record { 0 = t }) ∷ l) = omega arith in
    record { some = b; all = (b, (refl, (a, (refl, c.all)))) }
closes_track New t l c =
    let s = c.some in
    let b : Unclosed (SynchronizeCache (record { 0 = t }) ∷ l) = omega arith in
    record { some = b; all = (b, (refl, c.all)) }

each_closes : (m : Method) (o : Order) (t : ℕ) (xs : List Track) → Closes (each_track (by o m) t xs)
each_closes Tao o t [] = record { some = one; all = (one, (refl, tt)) }
each_closes Sao o t [] = record { some = one; all = (one, (refl, tt)) }
each_closes Tao o t (x ∷ xs) =
    closes_before (ReadTrackInformation (record { 0 = suc t }) ∷ ModeSelect (record { 0 = suc t }) ∷ writes_from (suc t) x.length.0 0) _ (refl, (refl, all_calm (suc t) x.length.0))
    (closes_track o.recipe (suc t) _ (each_closes Tao o (suc t) xs))
each_closes Sao o t (x ∷ xs) = closes_before (writes_from (suc t) x.length.0 0) _ (all_calm (suc t) x.length.0) (each_closes Sao o (suc t) xs)

pub scripted : (o : Order) → Scripted (script o)
scripted o = go o.method
  where
    go : (m : Method) → Scripted (script (by o m))
    go Tao = (closes_before (GetConfiguration ∷ ReadDiscInformation ∷ []) _ (refl, (refl, tt)) (each_closes Tao o 0 (tracks_in o))).all
    go Sao =
        (closes_before
        (GetConfiguration ∷ ReadDiscInformation ∷ ReadTrackInformation (record { 0 = 1 }) ∷ ModeSelect (record { 0 = 1 }) ∷ SendCueSheet ∷ writes_from 0 lead_frames 0)
        _ (refl, (refl, (refl, (refl, (refl, all_calm 0 lead_frames))))) (each_closes Sao o 0 (tracks_in o))).all
