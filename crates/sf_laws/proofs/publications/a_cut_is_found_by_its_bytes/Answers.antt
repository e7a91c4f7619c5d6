use Rattle.std.proofs.Common.{◌≡◌, ℕ, true, false, List, Option, Some, refl, ap, ◌∙◌}
use Rattle.std.specs.Prelude.{is_some}
use Rattle.sf_types.specs.Table.Parts.{Content}
use Rattle.sf_types.specs.Space.Promises.{is_found}
use Rattle.sf_laws.proofs.GivenBirthLemmas.{found_at}
use Rattle.sf_laws.proofs.WantedLemmas.{is_found_from}
use Rattle.sf_laws.proofs.publications.a_cut_is_found_by_its_bytes.Goals as goal

-- a content by its two fields
content_is : (x : Content) (bytes : List ℕ) → x.is_shared ≡ true → x.bytes ≡ bytes → x ≡ record { bytes = bytes; is_shared = true }
content_is x bytes shared same = ap (λ b. record { bytes = x.bytes; is_shared = b }) shared ∙ ap (λ (xs : List ℕ). record { bytes = xs; is_shared = true }) same

pub returns-clause-found : goal.returns-clause-found
returns-clause-found c contents reached cut b is =
    let f = found_at contents reached cut b is in
    (f.sharing, f.within, f.at ∙ ap (λ (x : Content). Some x) (content_is f.content cut.bytes f.shared f.bytes))

pub returns-clause-missing : goal.returns-clause-missing
returns-clause-missing c contents reached cut b none sharing within at =
    let found : is_found contents reached cut ≡ true = is_found_from contents reached cut b (record { sharing = sharing; within = within; content = record { bytes = cut.bytes; is_shared = true }; at = at; shared = refl; bytes = refl }) in
    let missing : is_found contents reached cut ≡ false = ap (λ (o : Option ℕ). is_some o) none in
    cc
