-- What a header in the code is seen as.
use Rattle.wfc_ppm.specs.declared.reading.Header.{Header}
use Rattle.wfc_ppm.specs.Fault.{Head}

-- a header as the definitions see it
abbrev pub head_view : Header → Head
head_view header = record { width = header.width; height = header.height; maxval = header.maxval; rest = header.rest.now }
