-- 01's numbers of the refusals ("Refused because of the input", "Refused because of the state"), by 01's names.
use Rattle.std.specs.Prelude.{ℕ}

-- "1 Uneven: a slice of records other than slots isn't whole, a count passes its slice or limit, or a run list has over 64 runs."
abbrev pub uneven : ℕ
uneven = 1

-- "2 BadTerm", "3 BadNode", "4 BadField": "such a record breaks its rule".
abbrev pub bad_term : ℕ
bad_term = 2

abbrev pub bad_node : ℕ
bad_node = 3

abbrev pub bad_field : ℕ
bad_field = 4

-- "5 PastEnd: a count or range reaches past its field, or a listed or binding run, even empty, ends past the used terms."
abbrev pub past_end : ℕ
past_end = 5

-- "6 TooLong: a field would pass 65,536 terms."
abbrev pub too_long : ℕ
too_long = 6

-- "7 BadPattern", "8 BadBinding": "such a record breaks its rule".
abbrev pub bad_pattern : ℕ
bad_pattern = 7

abbrev pub bad_binding : ℕ
bad_binding = 8

-- "9 TooManyNames: start and pattern together name over 64."
abbrev pub too_many_names : ℕ
too_many_names = 9

-- "10 NoMatch. 11 CallsAreNotPatterns."
abbrev pub no_match : ℕ
no_match = 10

abbrev pub calls_are_not_patterns : ℕ
calls_are_not_patterns = 11

-- "12 NodesFull: the nodes which the rules below make for this call exceed the unused ones."
abbrev pub nodes_full : ℕ
nodes_full = 12

-- "13 TermsFull: a settled copy exceeds the unused terms. 14 WorkShort: a copy exceeds the work buffer."
abbrev pub terms_full : ℕ
terms_full = 13

abbrev pub work_short : ℕ
work_short = 14

-- "15 MoreThanFit: a further candidate exists after the slots are filled."
abbrev pub more_than_fit : ℕ
more_than_fit = 15

-- "16 BadSheet."
abbrev pub bad_sheet : ℕ
bad_sheet = 16
