-- Lines, and what they ask for.
use Rattle.std.specs.Prelude.{◌≡◌, ◌++◌, ◌∷◌, [], codes, true, false, Some, None, refl}
use Rattle.std.specs.Char.{encode_utf8}
use Rattle.std.specs.Str.{is_utf8, chars}
use Rattle.hex.specs.Hex.{decode_pairs}
use Rattle.gs_msg.specs.declared.kind.Kind.TheVariants as kinds
use Rattle.gs_shell_grammar.specs.declared.command.Upgrade.TheVariants.{Query, Prepare, Finalize, Rollback}
use Rattle.gs_shell_grammar.specs.declared.command.UpgradeStep.TheVariants.{PrepareBegin, PrepareCommit, RollbackBegin, RollbackCommit}
use Rattle.gs_shell_grammar.specs.declared.command.Restarted.TheVariants.{Master, Server}
use Rattle.gs_shell_grammar.specs.Grammar.{Mkdir, Create, Ls, Stat, Mv, Rm, Undelete, Snapshot, Write, Append, Read, Digest, Scan, Replicate, Beat, Tick, RollingUpgrade, Step, At, Restart, Lose, Damage, Hold, Deliver, line_request, one_word, two_words, three_words, four_words, upgrade_line, restart_line, number_line, append_line, lose_line, hold_line, write_line, read_line, digest_line, damage_line}

mkdir : line_request (codes "mkdir /a/b") ≡ Some (Mkdir (codes "/a/b"))
unfolding two_words is_utf8 chars encode_utf8
mkdir = refl

create : line_request (codes "create /f") ≡ Some (Create (codes "/f"))
unfolding two_words is_utf8 chars encode_utf8
create = refl

ls : line_request (codes "ls /") ≡ Some (Ls (codes "/"))
unfolding two_words is_utf8 chars encode_utf8
ls = refl

stat : line_request (codes "stat /f") ≡ Some (Stat (codes "/f"))
unfolding two_words is_utf8 chars encode_utf8
stat = refl

mv : line_request (codes "mv /a /b") ≡ Some (Mv (codes "/a") (codes "/b"))
unfolding three_words is_utf8 chars encode_utf8
mv = refl

rm : line_request (codes "rm /a") ≡ Some (Rm (codes "/a") false)
unfolding two_words is_utf8 chars encode_utf8
rm = refl

rm-recursive : line_request (codes "rm -r /a") ≡ Some (Rm (codes "/a") true)
unfolding three_words is_utf8 chars encode_utf8
rm-recursive = refl

rm-no_path : line_request (codes "rm -r") ≡ Some (Rm (codes "-r") false)
unfolding two_words is_utf8 chars encode_utf8
rm-no_path = refl

undelete : line_request (codes "undelete /a") ≡ Some (Undelete (codes "/a"))
unfolding two_words is_utf8 chars encode_utf8
undelete = refl

snapshot : line_request (codes "snapshot /a /b") ≡ Some (Snapshot (codes "/a") (codes "/b"))
unfolding three_words is_utf8 chars encode_utf8
snapshot = refl

write : line_request (codes "write /f 12 00ff") ≡ Some (Write (codes "/f") 12 (0 ∷ 255 ∷ []))
unfolding four_words write_line decode_pairs is_utf8 chars encode_utf8
write = refl

append : line_request (codes "append /f 61") ≡ Some (Append (codes "/f") (97 ∷ []))
unfolding three_words append_line decode_pairs is_utf8 chars encode_utf8
append = refl

read : line_request (codes "read /f 5 10") ≡ Some (Read (codes "/f") 5 10)
unfolding four_words read_line is_utf8 chars encode_utf8
read = refl

digest : line_request (codes "digest /f 1 0") ≡ Some (Digest (codes "/f") 1 0)
unfolding four_words digest_line is_utf8 chars encode_utf8
digest = refl

scan : line_request (codes "scan") ≡ Some Scan
unfolding one_word is_utf8 chars encode_utf8
scan = refl

replicate : line_request (codes "replicate") ≡ Some Replicate
unfolding one_word is_utf8 chars encode_utf8
replicate = refl

beat : line_request (codes "beat 2") ≡ Some (Beat 2)
unfolding two_words number_line is_utf8 chars encode_utf8
beat = refl

tick : line_request (codes "tick") ≡ Some Tick
unfolding one_word is_utf8 chars encode_utf8
tick = refl

query : line_request (codes "rollingUpgrade query") ≡ Some (RollingUpgrade Query)
unfolding two_words upgrade_line is_utf8 chars encode_utf8
query = refl

prepare : line_request (codes "rollingUpgrade prepare") ≡ Some (RollingUpgrade Prepare)
unfolding two_words upgrade_line is_utf8 chars encode_utf8
prepare = refl

finalize : line_request (codes "rollingUpgrade finalize") ≡ Some (RollingUpgrade Finalize)
unfolding two_words upgrade_line is_utf8 chars encode_utf8
finalize = refl

rollback : line_request (codes "rollingUpgrade rollback") ≡ Some (RollingUpgrade Rollback)
unfolding two_words upgrade_line is_utf8 chars encode_utf8
rollback = refl

prepare_begin : line_request (codes "prepare-begin") ≡ Some (Step PrepareBegin)
unfolding one_word is_utf8 chars encode_utf8
prepare_begin = refl

prepare_commit : line_request (codes "prepare-commit") ≡ Some (Step PrepareCommit)
unfolding one_word is_utf8 chars encode_utf8
prepare_commit = refl

rollback_begin : line_request (codes "rollback-begin") ≡ Some (Step RollbackBegin)
unfolding one_word is_utf8 chars encode_utf8
rollback_begin = refl

rollback_commit : line_request (codes "rollback-commit") ≡ Some (Step RollbackCommit)
unfolding one_word is_utf8 chars encode_utf8
rollback_commit = refl

at : line_request (codes "at 259201") ≡ Some (At 259201)
unfolding two_words number_line is_utf8 chars encode_utf8
at = refl

restart-master : line_request (codes "restart master") ≡ Some (Restart Master)
unfolding two_words restart_line is_utf8 chars encode_utf8
restart-master = refl

restart-server : line_request (codes "restart 3") ≡ Some (Restart (Server 3))
unfolding two_words restart_line is_utf8 chars encode_utf8
restart-server = refl

lose : line_request (codes "lose 0 7") ≡ Some (Lose 0 7)
unfolding three_words lose_line is_utf8 chars encode_utf8
lose = refl

damage : line_request (codes "damage 0 7 1") ≡ Some (Damage 0 7 1)
unfolding four_words damage_line is_utf8 chars encode_utf8
damage = refl

hold : line_request (codes "hold on makecopy") ≡ Some (Hold (Some kinds.MakeCopy))
unfolding three_words hold_line is_utf8 chars encode_utf8
hold = refl

hold-nothing : line_request (codes "hold off") ≡ Some (Hold None)
unfolding two_words is_utf8 chars encode_utf8
hold-nothing = refl

deliver : line_request (codes "deliver 4") ≡ Some (Deliver 4)
unfolding two_words number_line is_utf8 chars encode_utf8
deliver = refl

-- the greatest number
greatest_number : line_request (codes "at 18446744073709551615") ≡ Some (At 18446744073709551615)
unfolding two_words number_line is_utf8 chars encode_utf8
greatest_number = refl

past_the_greatest_number : line_request (codes "at 18446744073709551616") ≡ None
unfolding two_words number_line is_utf8 chars encode_utf8
past_the_greatest_number = refl

-- zeros in front say nothing
zeros_in_front : line_request (codes "at 00000000000000000000000000000007") ≡ Some (At 7)
unfolding two_words number_line is_utf8 chars encode_utf8
zeros_in_front = refl

plus : line_request (codes "at +7") ≡ None
unfolding two_words number_line is_utf8 chars encode_utf8
plus = refl

minus : line_request (codes "at -7") ≡ None
unfolding two_words number_line is_utf8 chars encode_utf8
minus = refl

hex_number : line_request (codes "at 0x7") ≡ None
unfolding two_words number_line is_utf8 chars encode_utf8
hex_number = refl

no_number : line_request (codes "read /f 0 end") ≡ None
unfolding four_words read_line is_utf8 chars encode_utf8
no_number = refl

no_number-first : line_request (codes "read /f - 1") ≡ None
unfolding four_words read_line is_utf8 chars encode_utf8
no_number-first = refl

digest-no_chunk : line_request (codes "digest /f a 0") ≡ None
unfolding four_words digest_line is_utf8 chars encode_utf8
digest-no_chunk = refl

lose-no_server : line_request (codes "lose master 1") ≡ None
unfolding three_words lose_line is_utf8 chars encode_utf8
lose-no_server = refl

damage-no_handle : line_request (codes "damage 0 /f 0") ≡ None
unfolding four_words damage_line is_utf8 chars encode_utf8
damage-no_handle = refl

damage-no_block : line_request (codes "damage 0 1 a") ≡ None
unfolding four_words damage_line is_utf8 chars encode_utf8
damage-no_block = refl

beat-no_server : line_request (codes "beat all") ≡ None
unfolding two_words number_line is_utf8 chars encode_utf8
beat-no_server = refl

deliver-no_number : line_request (codes "deliver all") ≡ None
unfolding two_words number_line is_utf8 chars encode_utf8
deliver-no_number = refl

-- hex of either case
both_cases : line_request (codes "append /f aBCd") ≡ Some (Append (codes "/f") (171 ∷ 205 ∷ []))
unfolding three_words append_line decode_pairs is_utf8 chars encode_utf8
both_cases = refl

odd_digits : line_request (codes "append /f 616") ≡ None
unfolding three_words append_line is_utf8 chars encode_utf8
odd_digits = refl

no_hex : line_request (codes "append /f 6g") ≡ None
unfolding three_words append_line decode_pairs is_utf8 chars encode_utf8
no_hex = refl

write-no_hex : line_request (codes "write /f 0 6g") ≡ None
unfolding four_words write_line decode_pairs is_utf8 chars encode_utf8
write-no_hex = refl

write-no_offset : line_request (codes "write /f x 61") ≡ None
unfolding four_words write_line is_utf8 chars encode_utf8
write-no_offset = refl

no_bytes : line_request (codes "append /f") ≡ None
unfolding two_words number_line is_utf8 chars encode_utf8
no_bytes = refl

no_bytes-space_last : line_request (codes "append /f ") ≡ None
unfolding is_utf8 chars encode_utf8
no_bytes-space_last = refl

-- other words
other_word : line_request (codes "LS /") ≡ None
unfolding two_words number_line is_utf8 chars encode_utf8
other_word = refl

other_one_word : line_request (codes "scans") ≡ None
unfolding one_word is_utf8 chars encode_utf8
other_one_word = refl

tick-other_case : line_request (codes "Tick") ≡ None
unfolding one_word is_utf8 chars encode_utf8
tick-other_case = refl

other_option : line_request (codes "rm -R /a") ≡ None
unfolding three_words is_utf8 chars encode_utf8
other_option = refl

other_upgrade : line_request (codes "rollingUpgrade begin") ≡ None
unfolding two_words upgrade_line is_utf8 chars encode_utf8
other_upgrade = refl

no_kind : line_request (codes "hold on nothing") ≡ None
unfolding three_words hold_line is_utf8 chars encode_utf8
no_kind = refl

hold-other_word : line_request (codes "hold at call") ≡ None
unfolding three_words is_utf8 chars encode_utf8
hold-other_word = refl

hold-other_switch : line_request (codes "hold none") ≡ None
unfolding two_words is_utf8 chars encode_utf8
hold-other_switch = refl

no_node : line_request (codes "restart Master") ≡ None
unfolding two_words restart_line is_utf8 chars encode_utf8
no_node = refl

-- a word too few, a word too many
a_word_less : line_request (codes "mv /a") ≡ None
unfolding two_words number_line is_utf8 chars encode_utf8
a_word_less = refl

a_word_more : line_request (codes "rm -r /a /b") ≡ None
unfolding four_words is_utf8 chars encode_utf8
a_word_more = refl

write-a_word_less : line_request (codes "write /f 00") ≡ None
unfolding three_words is_utf8 chars encode_utf8
write-a_word_less = refl

scan-a_word_more : line_request (codes "scan 1") ≡ None
unfolding two_words number_line is_utf8 chars encode_utf8
scan-a_word_more = refl

tick-a_word_more : line_request (codes "tick 0") ≡ None
unfolding two_words number_line is_utf8 chars encode_utf8
tick-a_word_more = refl

tick-two_words_more : line_request (codes "tick 0 1") ≡ None
unfolding three_words is_utf8 chars encode_utf8
tick-two_words_more = refl

hold-a_word_less : line_request (codes "hold on") ≡ None
unfolding two_words is_utf8 chars encode_utf8
hold-a_word_less = refl

hold-a_word_more : line_request (codes "hold off call") ≡ None
unfolding three_words is_utf8 chars encode_utf8
hold-a_word_more = refl

five_words : line_request (codes "damage 0 1 2 3") ≡ None
unfolding is_utf8 chars encode_utf8
five_words = refl

name_alone : line_request (codes "mkdir") ≡ None
unfolding one_word is_utf8 chars encode_utf8
name_alone = refl

-- spaces
empty : line_request [] ≡ None
unfolding is_utf8 chars encode_utf8
empty = refl

space_alone : line_request (codes " ") ≡ None
unfolding is_utf8 chars encode_utf8
space_alone = refl

two_spaces : line_request (codes "mv  /a") ≡ None
unfolding is_utf8 chars encode_utf8
two_spaces = refl

space_first : line_request (codes " ls /") ≡ None
unfolding is_utf8 chars encode_utf8
space_first = refl

space_last : line_request (codes "ls ") ≡ None
unfolding is_utf8 chars encode_utf8
space_last = refl

tab : line_request (codes "ls" ++ 9 ∷ codes "/") ≡ None
unfolding one_word is_utf8 chars encode_utf8
tab = refl

-- a word of two bytes
word-utf8 : line_request (codes "ls /" ++ 195 ∷ 169 ∷ []) ≡ Some (Ls (codes "/" ++ 195 ∷ 169 ∷ []))
unfolding two_words is_utf8 chars encode_utf8
word-utf8 = refl

no_utf8 : line_request (codes "ls /" ++ 255 ∷ []) ≡ None
unfolding is_utf8 chars encode_utf8
no_utf8 = refl
