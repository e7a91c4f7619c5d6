-- Fronts of sessions: what a session has seen of the history (our own).
use Rattle.std.specs.Prelude.{◌≡◌, ℕ, ◌==◌, List, ◌++◌, filter}
use Rattle.sf_types.specs.declared.history.Entry.{Entry}

-- The entries of a session.
abbrev pub entries_of : ℕ → List Entry → List Entry
entries_of s entries = filter (λ e. e.token.session == s) entries

-- A session's front is a front part of the history, and its entries of that session are, in order, those that the
-- session's calls put there, each once.
pub record IsFront (history : List Entry) (s : ℕ) (own front : List Entry) : Type 0 where
  pub rest : List Entry
  pub parts : history ≡ front ++ rest
  pub entries : entries_of s front ≡ own
