-- Short ways to write calls and histories, for the examples (our own).
use Rattle.std.specs.Prelude.{ℕ, List, [], ◌∷◌, map, replicate}
use Rattle.sf_types.specs.declared.call.Call.{Call}
use Rattle.sf_types.specs.declared.history.Entry.{Entry}
use Rattle.sf_types.specs.declared.history.Kind.TheVariants as kind
use Rattle.sf_types.specs.declared.options.Options.{Options}
use Rattle.sf_types.specs.declared.reply.Reply.{Reply}
use Rattle.sf_types.specs.Limits.{standard_options}
use Rattle.sf_types.specs.Table.Parts.{Table, opening_table}
use Rattle.sf_types.specs.Orders.Histories.{history_table, history_replies, IsLegalHistory}

-- A call of a session that ends.
abbrev pub ends_in : ℕ → Call → Entry
ends_in s c = record { token = record { session = s; kind = kind.Call }; call = c }

-- The promise of a session's call. A granted one is followed by the end of the call, a refused one isn't.
abbrev pub promises_in : ℕ → Call → Entry
promises_in s c = record { token = record { session = s; kind = kind.Promise }; call = c }

-- A call of session 1 that ends.
abbrev pub ending : Call → Entry
ending c = ends_in 1 c

-- The promise of a call of session 1.
abbrev pub promises : Call → Entry
promises c = promises_in 1 c

-- A due call of session 1 with its promise and its end.
abbrev pub flushes : Call → List Entry
flushes c = promises c ∷ ending c ∷ []

-- Calls of session 1 of which none is due.
abbrev pub calls : List Call → List Entry
calls cs = map ending cs

-- The table at the end of a history of session 1, and the replies.
abbrev pub table_at_end : Options → List Entry → Table
table_at_end options history = history_table options 1 history

-- The replies to its calls.
abbrev pub replies_in : Options → List Entry → List Reply
replies_in options history = history_replies options 1 history 1

-- Each of its entries is legal where it stands.
abbrev pub IsLegalAlone : Options → List Entry → Type 0
IsLegalAlone options history = IsLegalHistory (opening_table options 1) history

-- The options of a store of so many blocks.
abbrev pub store_of : ℕ → Options
store_of blocks = record standard_options { capacity = blocks }

-- A block of one byte.
abbrev pub block : ℕ → List ℕ
block b = replicate 512 b
