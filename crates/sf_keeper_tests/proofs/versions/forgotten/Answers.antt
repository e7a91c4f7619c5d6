use Rattle.std.proofs.Common.{◌≡◌, [], ◌∷◌, sym, subst}
use Rattle.sf_versions.specs.VersionTables.{VersionTable, no_versions, after_commit, IsDisplaced}
use Rattle.sf_keeper_tests.proofs.DisplacedLemmas.{displaced}
use Rattle.sf_keeper_tests.proofs.versions.forgotten.Goals as goal

pub forget-requires : goal.forget-requires
forget-requires c =
    let name = c.args.name.now in
    let first = c.in_ok-first.first in
    let second = c.in_ok-second.second in
    let made : c.commit.new.versions.held ≡ after_commit no_versions ((name, first) ∷ []) = cc (c.in_ok-commit.ensures, c.in_ok-copy.ensures, c.new-versions.ensures) in
    let both : c.commit-2.new.versions.held ≡ after_commit (after_commit no_versions ((name, first) ∷ [])) ((name, second) ∷ []) = cc (c.in_ok-commit-2.ensures, c.in_ok-copy-2.ensures, made) in
    subst (λ (t : VersionTable). IsDisplaced t.rows name 1) (sym both) (displaced name first second)
