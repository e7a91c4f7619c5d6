-- Holders that stand in a map by themselves (our own).
use Rattle.sf_types.specs.declared.holder.Holder.{Holder}
use Rattle.sf_types.specs.declared.holder.Holder.TheVariants.{Version, Session, Promise}
use Rattle.sf_lifetimes.specs.declared.holder_key.KeptHolder.{KeptHolder}
use Rattle.sf_lifetimes.specs.declared.holder_key.KeptHolder.TheVariants as kept

-- The holder that is kept.
abbrev pub kept_holder : KeptHolder → Holder
kept_holder (kept.Version name commit) = Version name commit
kept_holder (kept.Session session) = Session session
kept_holder (kept.Promise session) = Promise session
