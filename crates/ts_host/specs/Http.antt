-- Which requests close their connection.
use Rattle.std.specs.Prelude.{Bool, false, ◌||◌, [], ◌∷◌, codes}
use Rattle.std.specs.Str.{str_eq_ignore_ascii_case}
use Rattle.ts_spec.specs.Run.{is_quit}
use Rattle.ts_spec.specs.Wire.{Request}

-- the first line of an HTTP request with a body, or its header that names the host; in any case of letters
abbrev pub is_http : Request → Bool
is_http [] = false
is_http (word ∷ words) = str_eq_ignore_ascii_case word (codes "POST") || str_eq_ignore_ascii_case word (codes "Host:")

-- QUIT closes its connection, and so does a request that a browser sends
abbrev pub closes : Request → Bool
closes request = is_http request || is_quit request
