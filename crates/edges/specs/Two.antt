-- The field of two elements, as the constant polynomials over two elements.
use Rattle.field.specs.Meaning.{FieldMeaning}
use Rattle.field.specs.Binary.{shifted_sum, binary_field}

abbrev pub two : FieldMeaning
two = binary_field 2 (shifted_sum 0 0x3 1)
