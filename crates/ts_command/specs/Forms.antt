-- The grammar of each command.
use Rattle.std.specs.Prelude.{ℤ, neg_ℤ, true, false, ◌&&◌, ◌==◌, nat_le, Ok}
use Rattle.ts_spec.specs.Command.{Quit, Drop, Exists}
use Rattle.ts_spec.specs.Ranges.{has_list}
use Rattle.ts_spec.specs.SeriesOptions.{has_labels}
use Rattle.ts_spec.specs.Grammar.{Form, form, list_form, option_form, create, alter, add, madd, incr, by_threes, del_range, create_rule, delete_rule, range, many_ranges, get_last, last_of_many, query_index, info, ping, echo}
use Rattle.ts_command.specs.declared.forms.Sign.{Sign}
use Rattle.ts_command.specs.declared.forms.Sign.TheVariants.{Plus, Minus}
use Rattle.ts_command.specs.declared.request.Verb.{Verb}
use Rattle.ts_command.specs.declared.request.Verb.TheVariants as verb

-- the grammar of a command
abbrev pub form_of : Verb → Form
form_of verb.Create = option_form has_labels 1 (nat_le 2) create
form_of verb.Alter = option_form has_labels 1 (nat_le 2) alter
form_of verb.Add = option_form has_labels 3 (nat_le 4) add
form_of verb.Madd = list_form by_threes madd
form_of verb.IncrBy = option_form has_labels 2 (nat_le 3) (incr (λ v. v))
form_of verb.DecrBy = option_form has_labels 2 (nat_le 3) (incr neg_ℤ)
form_of verb.DelRange = form (λ n. n == 4) del_range
form_of verb.CreateRule = form (λ n. nat_le 6 n && nat_le n 7) create_rule
form_of verb.DeleteRule = form (λ n. n == 3) delete_rule
form_of verb.Range = option_form has_list 3 (nat_le 4) (range false)
form_of verb.RevRange = option_form has_list 3 (nat_le 4) (range true)
form_of verb.MRange = list_form (nat_le 5) (many_ranges false)
form_of verb.MRevRange = list_form (nat_le 5) (many_ranges true)
form_of verb.Get = form (λ n. nat_le 2 n && nat_le n 3) get_last
form_of verb.MGet = list_form (nat_le 3) last_of_many
form_of verb.QueryIndex = list_form (nat_le 2) query_index
form_of verb.Info = form (λ n. n == 2) info
form_of verb.Ping = form (λ n. nat_le 1 n && nat_le n 2) ping
form_of verb.Echo = form (λ n. n == 2) echo
form_of verb.Quit = form (nat_le 1) (λ words. Ok Quit)
form_of verb.Drop = form (nat_le 2) (λ keys. Ok (Drop keys))
form_of verb.Exists = form (nat_le 2) (λ keys. Ok (Exists keys))

-- the change by a value: added or subtracted
abbrev pub signed_by : Sign → ℤ → ℤ
signed_by Plus v = v
signed_by Minus v = neg_ℤ v
