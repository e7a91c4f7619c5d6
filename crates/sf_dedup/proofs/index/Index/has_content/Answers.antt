use Rattle.std.proofs.Common.{◌∙◌, ap, sym, Some, None}
use Rattle.std.specs.Option.{option_copied}
use Rattle.sf_dedup.specs.Contents.{has_content}
use Rattle.sf_dedup.proofs.FilingLemmas.{has_is}
use Rattle.sf_dedup.proofs.index.Index.has_content.Goals as goal

pub returns-in-Some : goal.returns-in-Some
returns-in-Some c =
    c.eq.ensures
    ∙ has_is c.self.inside.contents.held c.args.birth c.args.content.now (Some c.in-Some.entry.now) (ap option_copied (sym c.in-Some.is) ∙ c.get.ensures)
    ∙ ap (λ v. has_content v.held c.args.birth c.args.content.now) c.self.view_is

pub returns-in-None : goal.returns-in-None
returns-in-None c =
    has_is c.self.inside.contents.held c.args.birth c.args.content.now None (ap option_copied (sym c.in-None.is) ∙ c.get.ensures)
    ∙ ap (λ v. has_content v.held c.args.birth c.args.content.now) c.self.view_is
