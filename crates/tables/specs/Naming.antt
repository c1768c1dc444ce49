-- What the named fields mean.
use Rattle.field.specs.Meaning.{FieldMeaning}
use Rattle.field.specs.Modular.{modulo251}
use Rattle.field.specs.Binary.{gf16, gf256}
use Rattle.tables.specs.declared.naming.NamedField.{NamedField}
use Rattle.tables.specs.declared.naming.NamedField.TheVariants.{Mod251, Gf256, Gf16}

abbrev pub named_meaning : NamedField → FieldMeaning
named_meaning Mod251 = modulo251
named_meaning Gf256 = gf256
named_meaning Gf16 = gf16
