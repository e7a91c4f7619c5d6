use Rattle.std.proofs.Common.{◌≡◌, ◌+◌, List, [], ◌∷◌, ◌++◌, map, sym, ap, ◌∙◌, arith}
use Rattle.std.specs.List.{range_with_len}
use Rattle.std.proofs.lemmas.List.FromFn.{map-range_with_len_more}
use Rattle.sf_types.specs.declared.reply.Reply.{Reply}
use Rattle.sf_session.specs.Cores.{CoreView, new_core}
use Rattle.sf_plain_store.specs.declared.players.Player.{Player}
use Rattle.sf_plain_store.specs.Inside.Players.{new_player}
use Rattle.sf_plain_store.proofs.live_play.new_players.Goals as goal

pub loop-at-preserved : goal.loop-at-preserved
loop-at-preserved c =
    let at = c.loop-at.at in
    let f = new_player c.args.gather in
    let next : 1 + at ≡ at + 1 = omega arith in
    c.in_ok-push.ensures.items
    ∙ ap (λ (xs : List Player). xs ++ record { core = c.new.result; replies = c.new-in-loop-at.result } ∷ []) c.loop-at.invariant
    ∙ ap (λ (x : CoreView). map f (range_with_len 1 at) ++ record { core = x; replies = c.new-in-loop-at.result } ∷ []) c.new.ensures
    ∙ ap (λ (rs : List Reply). map f (range_with_len 1 at) ++ record { core = new_core (at + 1) c.args.gather; replies = rs } ∷ []) c.new-in-loop-at.ensures
    ∙ sym (map-range_with_len_more f 1 at (at + 1) next)
