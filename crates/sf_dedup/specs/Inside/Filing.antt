-- How births stand under the digests of their contents (our own).
use Rattle.std.specs.Prelude.{◌≡◌, ◌==◌, ◌||◌, ℕ, Bool, true, false, not, T, List, [], ◌∷◌, ◌++◌, map, filter, is_some, if◌then◌else◌, Option, Some}
use Rattle.std.specs.Option.{option_map, option_map_or}
use Rattle.std.specs.Ordering.{nat_cmp}
use Rattle.std.specs.Cmp.Lexicographic.{slice_cmp}
use Rattle.std.specs.FinMap.Entries.{is_sorted}
use Rattle.sf_types.specs.Play.Blocks.{is_among}
use Rattle.sf_room_map.specs.Entries.{value_for, with_value, without_key}
use Rattle.sf_dedup.specs.declared.index.IndexEntry.{IndexEntry}
use Rattle.sf_dedup.specs.Prints.{print_of}
use Rattle.sf_dedup.specs.Contents.{Contents, content_at, has_content}

-- What an index keeps of each birth.
abbrev pub EntryMap : Type 0
EntryMap = List (ℕ × IndexEntry)

-- The contents without their prints.
abbrev pub plain_contents : EntryMap → Contents
plain_contents m = map (λ e. (e.0, e.1.content)) m

-- The births that came first with their digests.
abbrev pub Firsts : Type 0
Firsts = List (List ℕ × ℕ)

-- The birth that stands under a digest.
abbrev pub first_at : Firsts → List ℕ → Option ℕ
first_at firsts sum = value_for (slice_cmp nat_cmp) firsts sum

-- Whether this birth stands under a digest.
abbrev pub is_first : Firsts → List ℕ → ℕ → Bool
is_first firsts sum birth = option_map_or (λ first. birth == first) (first_at firsts sum) false

-- A new birth stands under its digest, or with the others where the digest is taken.
abbrev pub firsts_with : Firsts → List ℕ → ℕ → Firsts
firsts_with firsts sum birth = if is_some (first_at firsts sum) then firsts else with_value (slice_cmp nat_cmp) firsts sum birth

abbrev pub others_with : Firsts → List ℕ → List ℕ → ℕ → List ℕ
others_with firsts others sum birth = if is_some (first_at firsts sum) then others ++ birth ∷ [] else others

-- A birth that goes stands nowhere any more.
abbrev pub firsts_without : Firsts → List ℕ → ℕ → Firsts
firsts_without firsts sum birth = if is_first firsts sum birth then without_key (slice_cmp nat_cmp) firsts sum else firsts

abbrev pub others_without : List ℕ → ℕ → List ℕ
others_without others birth = filter (λ other. not (other == birth)) others

-- None of some births has these bytes.
abbrev pub NoneHas : Contents → List ℕ → List ℕ → Type 0
NoneHas contents births bytes = (birth : ℕ) → is_among births birth ≡ true → has_content contents birth bytes ≡ false

-- Births rise, each print is that of its content, and no two contents are equal. The birth under a digest is there and has
-- that digest; each birth stands under its digest or among the others; and the others are there.
pub record IsFiled (m : EntryMap) (firsts : Firsts) (others : List ℕ) : Type 0 where
  pub rising : T (is_sorted nat_cmp m)
  pub ordered : T (is_sorted (slice_cmp nat_cmp) firsts)
  pub prints : (birth : ℕ) (x : IndexEntry) → value_for nat_cmp m birth ≡ Some x → x.print ≡ print_of x.content
  pub apart : (birth other : ℕ) (bytes : List ℕ) → content_at (plain_contents m) birth ≡ Some bytes → content_at (plain_contents m) other ≡ Some bytes → birth ≡ other
  pub under : (sum : List ℕ) (birth : ℕ) → first_at firsts sum ≡ Some birth → option_map (λ x. x.print.sum) (value_for nat_cmp m birth) ≡ Some sum
  pub stands : (birth : ℕ) (x : IndexEntry) → value_for nat_cmp m birth ≡ Some x → (is_first firsts x.print.sum birth || is_among others birth) ≡ true
  pub there : (birth : ℕ) → is_among others birth ≡ true → is_some (value_for nat_cmp m birth) ≡ true
