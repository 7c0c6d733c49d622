-- What the converter's twin hands out, in numbers.
use Rattle.convert.specs.Outcome.{Numbers}
use Rattle.load.specs.declared.Converted.{Converted}

abbrev pub converted_means : Converted → Numbers
converted_means r = record { code = r.code; place = r.place; length = r.length }
