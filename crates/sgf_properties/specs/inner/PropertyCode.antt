-- How a property, properties and values are stored as lists, so that they can be the value of a model. This says nothing of what a text means.
use Rattle.std.specs.Prelude.{ℕ, List, refl}
use Rattle.std.specs.Coded.{Coded, code_by, coded×, coded_ℕ, coded_list}
use Rattle.sgf_properties.specs.Property.{Property}

-- a property is stored as its name, its first value and its further values
abbrev pub property_code : Coded Property
property_code =
    code_by (List ℕ × (List ℕ × List (List ℕ))) (coded× (coded_list coded_ℕ) (coded× (coded_list coded_ℕ) (coded_list (coded_list coded_ℕ))))
    (λ p. (p.name, (p.first, p.more)))
    (λ parts. record { name = parts.0; first = parts.1.0; more = parts.1.1 })
    (λ _. refl)

abbrev pub properties_code : Coded (List Property)
properties_code = coded_list property_code

abbrev pub values_code : Coded (List (List ℕ))
values_code = coded_list (coded_list coded_ℕ)
