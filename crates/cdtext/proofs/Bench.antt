-- The example packs, computed from the definitions.
use mathlib.Core.Path.{◌≡◌, refl}
use mathlib.Core.Bool.{true, false}
use mathlib.Core.List.{[], ◌∷◌, ◌++◌}
use lib.ListN.{take, replicate}
use Rattle.mmc.specs.Refusals.{pass}
use Rattle.cdtext.specs.Check.{bit_step, remainder_from, check_of}
use Rattle.cdtext.specs.Titles.{titles_from, title_count, allowed}
use Rattle.cdtext.specs.Packs.{pack, place_after, text_pack, text_packs, size_record, size_pack, packs_of, packs}
use Rattle.cdtext.specs.Bench.{stop_names, stop_names_packs, ExamplePacks}

the_stop_names : packs stop_names ≡ pass stop_names_packs
unfolding bit_step remainder_from check_of titles_from title_count allowed pack place_after text_pack text_packs size_record size_pack packs_of packs
the_stop_names = refl

position : take 4 (text_pack (replicate 30 0x41 ++ 0 ∷ []) 2) ≡ 0x80 ∷ 1 ∷ 2 ∷ 15 ∷ []
unfolding bit_step remainder_from check_of pack place_after text_pack
position = refl

longest : allowed (replicate 160 0x41 ++ 0 ∷ []) ≡ true
unfolding titles_from title_count allowed
longest = refl

too_long : allowed (replicate 161 0x41 ++ 0 ∷ []) ≡ false
unfolding titles_from title_count allowed
too_long = refl

last_character : allowed (0x7E ∷ 0 ∷ []) ≡ true
unfolding titles_from title_count allowed
last_character = refl

behind_last : allowed (0x7F ∷ 0 ∷ []) ≡ false
unfolding titles_from title_count allowed
behind_last = refl

first_character : allowed (0x20 ∷ 0 ∷ []) ≡ true
unfolding titles_from title_count allowed
first_character = refl

before_first : allowed (0x1F ∷ 0 ∷ []) ≡ false
unfolding titles_from title_count allowed
before_first = refl

pub example_packs : ExamplePacks
unfolding bit_step remainder_from check_of
example_packs =
    record {
      pack_42 = refl;
      pack_43 = refl;
      pack_44 = refl;
      the_stop_names = the_stop_names;
      first_character = first_character;
      before_first = before_first;
      last_character = last_character;
      behind_last = behind_last;
      longest = longest;
      too_long = too_long;
      position = position;
    }
