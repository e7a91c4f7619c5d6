use Rattle.std.proofs.Common.{◌∙◌, ap, sym}
use Rattle.std.specs.Option.{option_copied}
use Rattle.std.specs.Ordering.{nat_cmp}
use Rattle.std.specs.Cmp.{nat_cmp_total}
use Rattle.std.specs.FinMap as fin
use Rattle.sf_lifetimes.specs.Inside.Tallies.{left_of}
use Rattle.sf_lifetimes.proofs.EntryMapLemmas.{get_is}
use Rattle.sf_lifetimes.proofs.tally.TallyMap.left.Goals as goal

pub returns-in-Some : goal.returns-in-Some
returns-in-Some c =
    let is = get_is nat_cmp nat_cmp_total c.self.inside.entries.held c.args.birth ∙ sym c.get.ensures ∙ ap option_copied c.in-Some.is in
    ap (λ x. left_of x c.args.holders) (sym is) ∙ ap (λ v. left_of (fin.get v c.args.birth) c.args.holders) c.self.view_is

pub returns-in-None : goal.returns-in-None
returns-in-None c =
    let is = get_is nat_cmp nat_cmp_total c.self.inside.entries.held c.args.birth ∙ sym c.get.ensures ∙ ap option_copied c.in-None.is in
    ap (λ x. left_of x c.args.holders) (sym is) ∙ ap (λ v. left_of (fin.get v c.args.birth) c.args.holders) c.self.view_is
