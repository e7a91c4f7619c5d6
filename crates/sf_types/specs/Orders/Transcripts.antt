-- The lines of a transcript, and right transcripts (our own; the digests are those of FIPS 180-4).
use Rattle.std.specs.Prelude.{◌≡◌, ℕ, ◌+◌, ◌-◌, List, [], ◌∷◌, ◌++◌, map, length, codes, sum_by, All, flat_map}
use Rattle.std.specs.List.{range_with_len, join_by}
use Rattle.std.specs.Option.{option_map_or}
use Rattle.std.specs.Fmt.{decimal}
use Rattle.hex.specs.Hex.{encode_lower}
use Rattle.sha2.specs.Sha256.{sha256}
use Rattle.sf_types.specs.declared.call.Call.{Call}
use Rattle.sf_types.specs.declared.history.Entry.{Entry}
use Rattle.sf_types.specs.declared.history.Kind.{Kind}
use Rattle.sf_types.specs.declared.history.Kind.TheVariants as kind
use Rattle.sf_types.specs.declared.history.Token.{Token}
use Rattle.sf_types.specs.declared.options.Options.{Options}
use Rattle.sf_types.specs.declared.place.Place.{Place}
use Rattle.sf_types.specs.declared.row_end.RowEnd.{RowEnd}
use Rattle.sf_types.specs.declared.run.Run.{Run}
use Rattle.sf_types.specs.declared.reply.Reply.{Reply}
use Rattle.sf_types.specs.Table.Parts.{Table}
use Rattle.sf_types.specs.Orders.Texts.{text_of_reply}
use Rattle.sf_types.specs.Table.Versions.{commit_count}
use Rattle.sf_types.specs.Orders.RowEnds.{row_ends_of}
use Rattle.sf_types.specs.Space.Use.{content_of}
use Rattle.sf_types.specs.Orders.Histories.{IsWhole, history_table, history_replies}
use Rattle.sf_types.specs.Space.Placings.{Placed, IsSafe}
use Rattle.sf_types.specs.Space.BlockRuns.{AreRuns, blocks_in}

-- Each line ends with a line feed.
abbrev pub line : List ℕ → List ℕ
line text = text ++ 10 ∷ []

-- A promise is marked. A cancel stands in no transcript.
abbrev pub mark_of : Kind → List ℕ
mark_of kind.Call = []
mark_of kind.Promise = codes "+"
mark_of kind.Cancel = []

-- A token stands after one space: its session's number, and its mark.
abbrev pub token_text : Token → List ℕ
token_text token = codes " " ++ decimal token.session ++ mark_of token.kind

-- The line of the order.
abbrev pub order_line : List Token → List ℕ
order_line order = line (codes "order" ++ flat_map token_text order)

-- The reply to the k-th call of session s.
abbrev pub reply_line : ℕ → ℕ → Reply → List ℕ
reply_line s k reply = line (decimal s ++ codes "." ++ decimal k ++ codes " " ++ text_of_reply reply)

-- The replies to a session's calls from the k-th on.
abbrev pub reply_lines : ℕ → ℕ → List Reply → List ℕ
reply_lines s k [] = []
reply_lines s k (reply ∷ replies) = reply_line s k reply ++ reply_lines s (k + 1) replies

-- The replies of the sessions from session s on.
abbrev pub session_lines : ℕ → List (List Reply) → List ℕ
session_lines s [] = []
session_lines s (replies ∷ others) = reply_lines s 1 replies ++ session_lines (s + 1) others

-- A run is written with its first block and its number of blocks.
abbrev pub run_text : Run → List ℕ
run_text run = decimal run.first ++ codes "+" ++ decimal run.blocks

-- A birth with its content's length and digest, and its runs, joined by commas.
abbrev pub place_line : Place → List ℕ
place_line place = line (codes "place " ++ decimal place.birth ++ codes " " ++ decimal place.len ++ codes " "
    ++ encode_lower place.sum ++ codes " " ++ join_by run_text (codes ",") place.runs)

-- A row that is present: its name, its length and the digest of its bytes.
abbrev pub row_line : RowEnd → List ℕ
row_line row = line (codes "row " ++ row.name ++ codes " " ++ decimal row.len ++ codes " " ++ encode_lower row.sum)

-- The whole transcript: its header, the order, the replies session by session, the places, the free number, the rows
-- and the number of commits.
abbrev pub whole_transcript : List Token → List (List Reply) → List Place → ℕ → List RowEnd → ℕ → List ℕ
whole_transcript order replies places free rows commits =
    line (codes "transcript 1")
    ++ order_line order
    ++ session_lines 1 replies
    ++ flat_map place_line places
    ++ line (codes "free " ++ decimal free)
    ++ flat_map row_line rows
    ++ line (codes "now " ++ decimal commits)

-- The place of a birth at some runs: with its content's length and digest.
abbrev pub place_of_birth : Table → ℕ → List Run → Place
place_of_birth t birth runs =
    let bytes = option_map_or (λ x. x.bytes) (content_of t.contents birth) [] in
    record { birth = birth; len = length bytes; sum = sha256 bytes; runs = runs }

-- A place as a birth with its blocks.
abbrev pub birth_blocks : Place → Placed
birth_blocks place = record { birth = place.birth; blocks = blocks_in place.runs }

-- The number of blocks of all places.
abbrev pub placed_block_count : List Place → ℕ
placed_block_count places = sum_by (λ place. length (blocks_in place.runs)) places

-- The replies of all of so many sessions.
abbrev pub all_replies : Options → ℕ → List Entry → List (List Reply)
all_replies options sessions history = map (history_replies options sessions history) (range_with_len 1 sessions)

-- The bytes are the right transcript of a script, given as its options and each session's calls, where they are the
-- transcript of a whole order with the replies, rows and number of commits of its run, and with places that tell each
-- birth's content and are a safe placing.
pub record IsRight (options : Options) (calls : List (List Call)) (bytes : List ℕ) : Type 0 where
  pub order : List Token
  pub whole : IsWhole options calls order
  pub places : List Place
  pub contents : All (λ place. place ≡ place_of_birth (history_table options (length calls) whole.history) place.birth place.runs) places
  pub runs : All (λ place. AreRuns place.runs) places
  pub safe : IsSafe (history_table options (length calls) whole.history) (map birth_blocks places)
  pub text : bytes ≡ whole_transcript order (all_replies options (length calls) whole.history) places
      (options.capacity - placed_block_count places)
      (row_ends_of (history_table options (length calls) whole.history)) (commit_count (history_table options (length calls) whole.history))
