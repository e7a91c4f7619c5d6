-- The rule of the turnstile, a fact about its two words, its slot and the views of all seats, which holds between any two
-- atomic steps (our own).
use Rattle.std.specs.Prelude.{◌≡◌, ◌⊎◌, ℕ, ◌+◌, ◌%◌, ◌^◌, ◌<◌, ◌≤◌, Bool, true, false, List, [], ◌∷◌, length, Option, Some, None, drop, Contains}
use Rattle.std.specs.List.{count_by}
use mathlib.Core.Option as m
use mathlib.Core.List.{IsPrefix}
use lib.ListN.{get_elem?}
use Rattle.atomic_table.specs.Table.{State}
use Rattle.sf_types.specs.declared.history.Entry.{Entry}
use Rattle.sf_types.specs.Orders.Fronts.{entries_of}
use Rattle.sf_turnstile.specs.declared.limits.TheConstants.{TURNSTILE_SPLITS}
use Rattle.sf_turnstile.specs.declared.view.Phase.{Phase}
use Rattle.sf_turnstile.specs.declared.view.Phase.TheVariants.{Idle, Waits, Holds, Spent}
use Rattle.sf_turnstile.specs.declared.view.View.{View}

-- The ticket of a seat that has drawn and not yet handed on.
abbrev pub ticket_of : Phase → Option ℕ
ticket_of Idle = None
ticket_of (Waits ticket) = Some ticket
ticket_of (Holds ticket) = Some ticket
ticket_of Spent = None

-- A seat has a ticket from its draw to its hand-on.
abbrev pub has_ticket : Phase → Bool
has_ticket Idle = false
has_ticket (Waits ticket) = true
has_ticket (Holds ticket) = true
has_ticket Spent = false

-- A seat is out until it is joined into the first seat.
abbrev pub is_out : Phase → Bool
is_out Idle = true
is_out (Waits ticket) = true
is_out (Holds ticket) = true
is_out Spent = false

-- The number of seats that have drawn and not yet handed on.
abbrev pub tickets_out : List View → ℕ
tickets_out views = count_by (λ v. has_ticket v.phase) views

-- The number of seats that weren't joined, the first seat among them.
abbrev pub seats_out : List View → ℕ
seats_out views = count_by (λ v. is_out v.phase) views

-- The ticket that is served after so many others. Tickets count modulo 2^64.
abbrev pub ticket_at : ℕ → ℕ → ℕ
ticket_at serving rank = (serving + rank) % 2 ^ 64

-- What a seat's phase says, where so many tickets are out: a ticket is one of those from the served one on. The seat that
-- has the slot has the served ticket, and the history as its front.
abbrev pub FitsPhase : List Entry → ℕ → ℕ → List Entry → Phase → Type 0
FitsPhase history serving tickets front Idle = Unit {0}
FitsPhase history serving tickets front (Waits ticket) = (rank : ℕ) × (rank < tickets) × (ticket ≡ ticket_at serving rank)
FitsPhase history serving tickets front (Holds ticket) = (0 < tickets) × (ticket ≡ serving) × (front ≡ history)
FitsPhase history serving tickets front Spent = ⊥

-- What a join leaves in the first seat's view: the front begins with both fronts. Of the joined seat's session the front
-- has just the entries of that seat's front, and of each session joined before just those that it had.
pub record HasBothFronts (v : View) : Type 0 where
  pub before : IsPrefix v.front_before v.front
  pub other : IsPrefix v.other_front v.front
  pub own : entries_of v.other_number v.front ≡ entries_of v.other_number v.other_front
  pub joined : (s : ℕ) → Contains (drop 1 v.joined_numbers) s → entries_of s v.front ≡ entries_of s v.front_before

-- A seat that is out has the number at which its view stands, and its front begins the history and has all
-- entries of the seat's session. Only into the first seat others are joined.
pub record FitsSeat (history : List Entry) (serving tickets id : ℕ) (v : View) : Type 0 where
  pub number : v.number ≡ id
  pub alone : 0 < id → v.joined_numbers ≡ []
  pub front : IsPrefix v.front history
  pub own : entries_of id v.front ≡ entries_of id history
  pub phase : FitsPhase history serving tickets v.front v.phase
  pub after_join : v.just_joined ≡ true → HasBothFronts v

-- The first seat counts the splits, at most TURNSTILE_SPLITS, and the other seats that are out, and names those that were
-- joined. Its front has all entries of their sessions. The history has no entry of a session whose seat wasn't made yet,
-- and none with the first seat's number.
pub record FitsFirst (history : List Entry) (views : List View) (v : View) : Type 0 where
  pub out : is_out v.phase ≡ true
  pub splits : length views ≡ v.splits + 1
  pub most : v.splits ≤ TURNSTILE_SPLITS
  pub others : seats_out views ≡ v.others_out + 1
  pub joined : (s : ℕ) → Contains v.joined_numbers s → entries_of s v.front ≡ entries_of s history
  pub spent : (id : ℕ) (w : View) → get_elem? views id ≡ m.some w → is_out w.phase ≡ false → Contains v.joined_numbers id
  pub joined_spent : (id : ℕ) → Contains v.joined_numbers id → (w : View) × (get_elem? views id ≡ m.some w) × (is_out w.phase ≡ false)
  pub unmade : (s : ℕ) → v.splits < s → entries_of s history ≡ []
  pub none_of_first : entries_of 0 history ≡ []

-- The first of the views is the first seat's.
abbrev pub HasFirst : List Entry → List View → Type 0
HasFirst history views = (v : View) × (get_elem? views 0 ≡ m.some v) × FitsFirst history views v

-- The seat with this number has this ticket.
abbrev pub HasTicket : List View → ℕ → ℕ → Type 0
HasTicket views id ticket = (v : View) × (get_elem? views id ≡ m.some v) × (ticket_of v.phase ≡ Some ticket)

-- The value is in its slot, and then it has the history, or it is out with the seat whose ticket is served.
abbrev pub InSlot : {B : Type 0} → (B → List Entry) → List Entry → ℕ → List (m.Option (Option B)) → List View → Type 0
InSlot {B} history_of history serving homes views =
    ((b : B) × (homes ≡ m.some (Some b) ∷ []) × (history_of b ≡ history))
    ⊎ ((id : ℕ) × (v : View) × (homes ≡ m.none ∷ []) × (get_elem? views id ≡ m.some v) × (v.phase ≡ Holds serving))

-- The words are the next ticket to be drawn and the ticket that is served. The tickets that are out are the consecutive
-- numbers from the served one on, each with one seat. The history is that of the value while it is in its slot.
pub record TurnstileRule {B : Type 0} (history_of : B → List Entry) (s : State (Option B) View) : Type 0 where
  pub history : List Entry
  pub serving : ℕ
  pub small : serving < 2 ^ 64
  pub words : s.words ≡ ticket_at serving (tickets_out s.views) ∷ serving ∷ []
  pub seats : (id : ℕ) (v : View) → get_elem? s.views id ≡ m.some v → is_out v.phase ≡ true → FitsSeat history serving (tickets_out s.views) id v
  pub unique : (i j ticket : ℕ) → HasTicket s.views i ticket → HasTicket s.views j ticket → i ≡ j
  pub consecutive : (rank : ℕ) → rank < tickets_out s.views → (id : ℕ) × HasTicket s.views id (ticket_at serving rank)
  pub slot : InSlot history_of history serving s.homes s.views
  pub first : HasFirst history s.views

-- The first seat's view of a new turnstile.
abbrev pub first_view : View
first_view = record { number = 0; front = []; phase = Idle; splits = 0; others_out = 0; joined_numbers = []; just_joined = false; front_before = []; other_number = 0; other_front = [] }
