-- Worked examples of captures.
use Rattle.std.specs.Prelude.{◌≡◌, refl, [], codes}
use Rattle.ts_mux.specs.Capture.{Then, Ended, Inside, Broken, read_on, capture}

-- a request in two frames, and a frame of another connection between them
pub interleaved : capture (codes "1 8\n*1\r\n$4\r\n2 14\n*1\r\n$4\r\nPING\r\n1 6\nPING\r\n")
    ≡ Then (record { link = 1; bytes = codes "*1\r\n$4\r\n" })
    (Then (record { link = 2; bytes = codes "*1\r\n$4\r\nPING\r\n" }) (Then (record { link = 1; bytes = codes "PING\r\n" }) Ended))
unfolding read_on
interleaved = refl

-- 0 is no connection number
pub no_link : capture (codes "0") ≡ Broken 0
unfolding read_on
no_link = refl

-- three bytes are missing
pub unfinished : capture (codes "1 5\nab") ≡ Inside 0
unfolding read_on
unfinished = refl

-- an empty frame, and the first byte of another
pub closed : capture (codes "7 0\n12") ≡ Then (record { link = 7; bytes = [] }) (Inside 4)
unfolding read_on
closed = refl

-- the greatest number, and a digit that makes one too great
pub most_links : capture (codes "4096 0\n4097 ") ≡ Then (record { link = 4096; bytes = [] }) (Broken 10)
unfolding read_on
most_links = refl

pub too_long : capture (codes "1 65537\n") ≡ Broken 6
unfolding read_on
too_long = refl

-- the longest body; all of it is missing
pub as_long : capture (codes "1 65536\n") ≡ Inside 0
unfolding read_on
as_long = refl

-- no digit follows a 0, a number has a digit, and one space separates the numbers
pub zero_first : capture (codes "1 00\n") ≡ Broken 3
unfolding read_on
zero_first = refl

pub no_length : capture (codes "1 \n") ≡ Broken 2
unfolding read_on
no_length = refl

pub two_spaces : capture (codes "1  1\na") ≡ Broken 2
unfolding read_on
two_spaces = refl
