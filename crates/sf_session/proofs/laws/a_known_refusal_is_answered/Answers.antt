use Rattle.std.proofs.Common.{ap, subst}
use Rattle.sf_types.specs.Halves.Asks.{half_of, half_answer, kept_births}
use Rattle.sf_versions.specs.Asks.{IsAnswer}
use Rattle.sf_session.proofs.StandingLemmas.{refusing}
use Rattle.sf_session.proofs.laws.a_known_refusal_is_answered.Goals as goal

pub returns : goal.returns
returns c =
    record {
      law = λ t core call answer known is.
          refusing answer known.fault (subst (λ request. IsAnswer answer (half_answer (half_of t) core.session call request (kept_births core.own call)).1) known.known is);
    }
