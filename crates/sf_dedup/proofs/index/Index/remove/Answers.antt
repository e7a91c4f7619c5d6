use Rattle.std.proofs.Common.{◌∙◌, ap, sym}
use Rattle.std.specs.Option.{option_copied, option_map}
use Rattle.std.specs.Ordering.{nat_cmp}
use Rattle.std.specs.Cmp.{nat_cmp_total}
use Rattle.std.specs.FinMap.{nat_cmp-IsAntisymmetric}
use Rattle.sf_room_map.proofs.EntryLemmas.{without_absent}
use Rattle.sf_dedup.specs.declared.index.IndexEntry.{IndexEntry}
use Rattle.sf_dedup.specs.Contents.{content_at, without_birth}
use Rattle.sf_dedup.specs.Inside.Filing.{plain_contents}
use Rattle.sf_dedup.proofs.FilingLemmas.{content_is, plain-without}
use Rattle.sf_dedup.proofs.FewerLemmas.{fewer_filed}
use Rattle.sf_dedup.proofs.index.Index.remove.Goals as goal

pub returns-in_default-clause-held : goal.returns-in_default-clause-held
returns-in_default-clause-held c =
    let m = c.self.inside.contents.held in
    let is = ap (λ v. v.held) c.self.view_is in
    let none = content_is m c.args.birth ∙ ap (option_map (λ (x : IndexEntry). x.content)) (sym c.get.ensures ∙ ap option_copied c.in_default.is) in
    sym (without_absent nat_cmp nat_cmp_total nat_cmp-IsAntisymmetric c.args.self.now.held c.args.birth (ap (λ contents. content_at contents c.args.birth) (sym is) ∙ none))

pub invariant_of-self : goal.invariant_of-self
invariant_of-self c =
    let own = sym c.get.ensures ∙ ap option_copied c.in-Some.is in
    rw (c.remove.ensures.held, c.unfile.ensures.firsts, c.unfile.ensures.others)
    (fewer_filed c.self.inside.contents.held c.self.inside.firsts.held c.self.inside.others.items c.args.birth c.in-Some.entry.now c.self.invariant own)

pub returns-clause-held : goal.returns-clause-held
returns-clause-held c =
    ap plain_contents c.remove.ensures.held ∙ plain-without c.self.inside.contents.held c.args.birth
    ∙ ap (λ contents. without_birth contents c.args.birth) (ap (λ v. v.held) c.self.view_is)
