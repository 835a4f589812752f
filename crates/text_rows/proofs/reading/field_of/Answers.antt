use Rattle.std.proofs.Common.{◌∙◌}
use Rattle.text_rows.proofs.FieldLemmas.{field_there, is_there, now_is}
use Rattle.text_rows.proofs.reading.field_of.Goals as goal

pub unwrap-requires : goal.unwrap-requires
unwrap-requires c = is_there _ _ (c.get.ensures.value ∙ field_there _ _ c.requires)

pub returns : goal.returns
returns c = now_is _ _ _ c.unwrap.ensures (c.get.ensures.value ∙ field_there _ _ c.requires)
