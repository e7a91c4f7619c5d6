use Rattle.std.proofs.Common.{◌∙◌, ap}
use Rattle.sf_dedup.specs.declared.index.IndexEntry.{IndexEntry}
use Rattle.sf_dedup.specs.Contents.{content_at, birth_with, with_content}
use Rattle.sf_dedup.specs.Inside.Filing.{plain_contents}
use Rattle.sf_dedup.proofs.FilingLemmas.{none_kept, plain-with}
use Rattle.sf_dedup.proofs.MoreLemmas.{more_filed}
use Rattle.sf_dedup.proofs.index.Index.add.Goals as goal

pub invariant_of-self : goal.invariant_of-self
invariant_of-self c =
    let m = c.self.inside.contents.held in
    let x : IndexEntry = record { print = c.args.print; content = c.args.content } in
    let is = ap (λ v. v.held) c.self.view_is ∙ c.make_room.ensures.held in
    rw (c.insert_within.ensures.held, c.file.ensures.firsts, c.file.ensures.others)
    (more_filed m c.self.inside.firsts.held c.self.inside.others.items c.args.birth x c.self.invariant
    (none_kept m c.args.birth (ap (λ contents. content_at contents c.args.birth) is ∙ c.requires.birth))
    c.requires.print
    (ap (λ contents. birth_with contents c.args.content) is ∙ c.requires.content))

pub returns-clause-held : goal.returns-clause-held
returns-clause-held c =
    let m = c.self.inside.contents.held in
    let x : IndexEntry = record { print = c.args.print; content = c.args.content } in
    ap plain_contents c.insert_within.ensures.held ∙ plain-with m c.args.birth x
    ∙ ap (λ contents. with_content contents c.args.birth c.args.content) (ap (λ v. v.held) c.self.view_is ∙ c.make_room.ensures.held)
