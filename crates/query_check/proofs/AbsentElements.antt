-- What stands in for an element of a list after its end.
use Rattle.std.proofs.Common.{[], false, None}
use Rattle.query_model.specs.declared.syntax.Role.TheVariants.{And}
use Rattle.query_model.specs.declared.syntax.Spoken.TheVariants.{Word}
use Rattle.query_model.specs.declared.syntax.Part.{Part}
use Rattle.query_model.specs.declared.syntax.Part.TheVariants.{Term}

abbrev pub no_part : Part
no_part = Term And (record {
  shows_value = false;
  component = record { spoken = Word (record { ref_ptr = (0, 0); now = [] }); span = record { start = 0; end = 0 } };
  target = None;
  source = None;
  flags = None;
  span = record { start = 0; end = 0 };
})
