use Rattle.std.proofs.Common.{◌≡◌, true, ap, ◌∙◌}
use Rattle.line_words.specs.Words.{is_name}
use Rattle.log_text.proofs.GranteeLists.{name_in}
use Rattle.log_text.proofs.grantees.RawGrantees.of_name.Goals as goal

pub invariant_of-result : goal.invariant_of-result
invariant_of-result c =
    let name : is_name c.as_str.result.now ≡ true = ap is_name c.as_str.ensures.text ∙ c.as_str.ensures.name in
    (name_in c.as_str.result.now name, λ is. name)
