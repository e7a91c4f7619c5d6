-- What a function that reads a text gives where it may want memory (our own).
use Rattle.std.specs.Prelude.{◌≡◌, Option, Some, None, Result, Ok, Err}
use Rattle.sf_script_calls.specs.declared.unread.Unread.{Unread}
use Rattle.sf_script_calls.specs.declared.unread.Unread.TheVariants.{Memory, NoForm}

-- What is spelled by a text that is read field by field: None as soon as a field is none.
infixl 10 ◌>>=◌
abbrev pub ◌>>=◌ : {A B : Type 0} → Option A → (A → Option B) → Option B
(Some x) >>= f = f x
None >>= f = None

-- Nothing was read because the text spells nothing, unless memory ran out.
abbrev pub Misses : {Y : Type 0} → Unread → Option Y → Type 0
Misses Memory spelled = Unit {0}
Misses NoForm spelled = spelled ≡ None

-- What a function returned, seen by view, is what the text spells, unless memory ran out.
abbrev pub Reads : {X Y : Type 0} → (X → Y) → Result X Unread → Option Y → Type 0
Reads view (Ok x) spelled = spelled ≡ Some (view x)
Reads view (Err unread) spelled = Misses unread spelled
