-- What a read of a source does to its bytes and to the buffer (our own).
use Rattle.std.specs.Prelude.{◌≡◌, ℕ, ◌<◌, ◌≤◌, ◌↔◌, List, [], ◌++◌, length, take, drop, Option, Some, IfSome, Result, IfOk, MatchResult}

-- a read gives at most as many bytes as the buffer has
abbrev pub ReadsAtMost : {E : Type 0} → Result ℕ E → List ℕ → Type 0
ReadsAtMost result into = IfOk result (λ n. n ≤ length into)

-- a read of n bytes changes the first n bytes of the buffer alone, and a read that failed changes none
abbrev pub KeepsRest : {E : Type 0} → Result ℕ E → List ℕ → List ℕ → Type 0
KeepsRest result old new = MatchResult result (λ n. drop n new ≡ drop n old) (λ _. new ≡ old)

-- the first n of these bytes went into the buffer, whose rest stays, and the others are left
pub record GivesFirst (bytes : List ℕ) (after : Option (List ℕ)) (n : ℕ) (old new : List ℕ) : Type 0 where
  pub enough : n ≤ length bytes
  pub given : new ≡ take n bytes ++ drop n old
  pub rest : after ≡ Some (drop n bytes)

-- where the source tells its bytes, a read gives the first of them, and a read that failed takes none
abbrev pub ReadConsumes : {E : Type 0} → Option (List ℕ) → Option (List ℕ) → Result ℕ E → List ℕ → List ℕ → Type 0
ReadConsumes before after result old new =
    IfSome before (λ bytes. MatchResult result (λ n. GivesFirst bytes after n old new) (λ _. after ≡ Some bytes))

-- where the source tells its bytes and the buffer isn't empty, a read gives none exactly at the end
abbrev pub EndsAtZero : {E : Type 0} → Option (List ℕ) → Result ℕ E → List ℕ → Type 0
EndsAtZero before result into =
    IfSome before (λ bytes. IfOk result (λ n. 0 < length into → ((n ≡ 0) ↔ (bytes ≡ []))))

-- over one or more reads: a source that told its bytes gave these, and tells the others
abbrev pub Gave : Option (List ℕ) → Option (List ℕ) → List ℕ → Type 0
Gave before after given = IfSome before (λ all. (rest : List ℕ) × (after ≡ Some rest) × (all ≡ given ++ rest))
