-- How the fields of a key are stored, where values of contracts are: as the list of their parts. Of this project.
use Rattle.std.specs.Coded.{Coded, coded×, coded_list, coded_ℕ}
use Rattle.dots.specs.Code.{dot_code}
use Rattle.causal_join.specs.OrMap.{FieldsValue}

abbrev pub fields_code : Coded FieldsValue
fields_code = coded_list (coded× (coded_list coded_ℕ) (coded_list (coded× dot_code (coded_list coded_ℕ))))
