-- Worked: scripts that are answered so, each line explained. Chunks have 16 bytes, in blocks of 4.
use Rattle.std.proofs.Common.{inl, inr}
use Rattle.std.specs.Prelude.{[], ◌++◌, ◌∷◌, Err, List, Ok, Some, codes, false, refl, replicate, true, ℕ}
use Rattle.std.specs.Char.{encode_utf8}
use Rattle.std.specs.Fmt.{digits}
use Rattle.std.specs.Str.{chars, is_utf8}
use Rattle.hex.specs.Hex.{decode_pairs, encode_with}
use Rattle.gs_base.specs.declared.refusal.Refusal.TheVariants as refusals
use Rattle.gs_block.specs.Chunk.{written}
use Rattle.gs_client.specs.declared.reading.Stat.TheVariants as stats
use Rattle.gs_msg.specs.declared.answer.ChunkStatus.{ChunkStatus}
use Rattle.gs_msg.specs.declared.answer.Phase.TheVariants as phases
use Rattle.gs_path.specs.Element.{twenty_digits}
use Rattle.gs_shell_calls.specs.declared.answer.Answer.TheVariants as answers
use Rattle.gs_shell_grammar.specs.Grammar.{append_line, damage_line, four_words, hold_line, lose_line, number_line, one_word, read_line, restart_line, three_words, two_words, upgrade_line, write_line}
use Rattle.gs_laws_scripts.specs.explained.Lines.{AreExplained}
use Rattle.gs_laws_scripts.specs.explained.Machine as machines

-- a chunk, by its handle, its references and its members
abbrev chunk : ℕ → ℕ → List ℕ → ChunkStatus
chunk handle references members = record { handle = handle; references = references; members = members }

abbrev all_three : List ℕ
all_three = 0 ∷ 1 ∷ 2 ∷ []

-- ---- a write past the end of a file, over two chunks

abbrev pub a_long_write : List (List ℕ)
a_long_write =
    codes "create /f" ∷ codes "write /f 14 616263" ∷ codes "read /f 0 32" ∷ codes "stat /f" ∷ []

abbrev pub a_long_write_answers : List (List ℕ)
a_long_write_answers =
    codes "ok" ∷ codes "ok" ∷ codes "ok 0000000000000000000000000000616263" ∷ codes "ok file 17 1/1/0,1,2 2/1/0,1,2" ∷ []

pub a_long_write_is_explained : AreExplained 16 4 a_long_write a_long_write_answers
unfolding one_word two_words three_words four_words append_line hold_line write_line read_line number_line upgrade_line decode_pairs encode_with written twenty_digits is_utf8 chars encode_utf8 digits
a_long_write_is_explained = (
  _,
  (
    _,
    inr (Ok answers.Done, (_, _, ([], inl (refl, refl)), refl, refl), inl refl),
    (
      _,
      inr (Ok answers.Done, ([], _, refl, inr (refl, ([], _, refl, inr (refl, ([], _, refl, inr (refl, ([], _, refl, inr (refl, ([], _, refl, inr (refl, (refl, refl))))))))))), inl refl),
      (
        _,
        inr (Ok (answers.Bytes (replicate 14 0 ++ 97 ∷ 98 ∷ 99 ∷ [])), ([], _, refl, inr (refl, ([], [], refl, refl))), inl refl),
        (
          _,
          inr (Ok (answers.Stat (stats.File 17 (chunk 1 1 all_three ∷ chunk 2 1 all_three ∷ []))), ([], _, refl, inr (refl, ([], _, refl, refl, refl))), inl refl),
          refl,
        ),
      ),
    ),
  ),
)

-- ---- a record that doesn't fit goes to the next chunk, and one that is too long is refused

abbrev records : List (List ℕ)
records =
    codes "create /f" ∷ codes "append /f 61626364" ∷ codes "append /f 6162636465" ∷ codes "write /f 4 616161616161616161" ∷ codes "append /f 7a7a7a7a" ∷ codes "read /f 12 8" ∷ codes "stat /f" ∷ []

abbrev records_answers : List (List ℕ)
records_answers =
    codes "ok" ∷ codes "ok 0" ∷ codes "refused 26 TooLong" ∷ codes "ok" ∷ codes "ok 16" ∷ codes "ok 610000007a7a7a7a" ∷ codes "ok file 20 1/1/0,1,2 2/1/0,1,2" ∷ []

records_is_explained : AreExplained 16 4 records records_answers
unfolding one_word two_words three_words four_words append_line hold_line write_line read_line number_line upgrade_line decode_pairs encode_with written twenty_digits is_utf8 chars encode_utf8 digits
records_is_explained = (
  _,
  (
    _,
    inr (Ok answers.Done, (_, _, ([], inl (refl, refl)), refl, refl), inl refl),
    (
      _,
      inr (Ok (answers.Number 0), ([], _, refl, inr (refl, ([], _, refl, inr (refl, [], _, refl, inr (inl (refl, refl)))))), inl refl),
      (
        _,
        inr (Err refusals.TooLong, ([], _, refl, inr (refl, ([], _, refl, inr (refl, [], _, refl, inl (refl, refl))))), inl refl),
        (
          _,
          inr (Ok answers.Done, ([], _, refl, inr (refl, ([], _, refl, inr (refl, (refl, refl))))), inl refl),
          (
            _,
            inr (Ok (answers.Number 16), ([], _, refl, inr (refl, ([], _, refl, inr (refl, [], _, refl, inr (inl ([], _, refl, inr (refl, [], _, refl, inr (inl (refl, refl))))))))), inl refl),
            (
              _,
              inr (Ok (answers.Bytes (97 ∷ 0 ∷ 0 ∷ 0 ∷ 122 ∷ 122 ∷ 122 ∷ 122 ∷ [])), ([], _, refl, inr (refl, ([], [], refl, refl))), inl refl),
              (
                _,
                inr (Ok (answers.Stat (stats.File 20 (chunk 1 1 all_three ∷ chunk 2 1 all_three ∷ []))), ([], _, refl, inr (refl, ([], _, refl, refl, refl))), inl refl),
                refl,
              ),
            ),
          ),
        ),
      ),
    ),
  ),
)

-- ---- an edit that nobody was sure of is done by the prepare, and so it is kept

abbrev an_unsure_write : List (List ℕ)
an_unsure_write =
    codes "create /f" ∷ codes "write /f 0 61" ∷ codes "hold on forward" ∷ codes "write /f 1 62" ∷ codes "hold off" ∷ codes "rollingUpgrade prepare" ∷ codes "deliver 1" ∷ codes "rollingUpgrade rollback" ∷ codes "read /f 0 2" ∷ codes "stat /f" ∷ []

abbrev an_unsure_write_answers : List (List ℕ)
an_unsure_write_answers =
    codes "ok" ∷ codes "ok" ∷ codes "ok" ∷ codes "refused 29 Unsure" ∷ codes "ok" ∷ codes "ok 1" ∷ codes "refused 22 Stamp 0.3" ∷ codes "ok 2" ∷ codes "ok 6162" ∷ codes "ok file 2 1/1/0" ∷ []

an_unsure_write_is_explained : AreExplained 16 4 an_unsure_write an_unsure_write_answers
unfolding one_word two_words three_words four_words append_line hold_line write_line read_line number_line upgrade_line decode_pairs encode_with written twenty_digits is_utf8 chars encode_utf8 digits
an_unsure_write_is_explained = (
  _,
  (
    _,
    inr (Ok answers.Done, (_, _, ([], inl (refl, refl)), refl, refl), inl refl),
    (
      _,
      inr (Ok answers.Done, ([], _, refl, inr (refl, ([], _, refl, inr (refl, ([], _, refl, inr (refl, (refl, refl))))))), inl refl),
      (
        _,
        inr (Ok answers.Done, ([], refl), inl refl),
        (
          _,
          inr (Err refusals.Unsure, ([], _, refl, inr (refl, ([], _, refl, inl (refusals.Unsure, refl, inr (refl, refl))))), inl refl),
          (
            _,
            inr (Ok answers.Done, ([], refl), inl refl),
            (
              _,
              inr (Ok (answers.Number 1), (_, inr (_, _, ([], inl (refl, refl)), (_, (machines.Settles (codes "f" ∷ []) 0 0 ∷ [], inl (refl, refl)), refl)), refl), inl refl),
              (
                _,
                inr (Err (refusals.Stamp (record { epoch = 0; version = 3 })), ([], refl), inl refl),
                (
                  _,
                  inr (Ok (answers.Number 2), inr (_, _, ([], inl (refl, refl)), (_, ([], inl (refl, refl)), refl)), inl refl),
                  (
                    _,
                    inr (Ok (answers.Bytes (97 ∷ 98 ∷ [])), ([], _, refl, inr (refl, ([], [], refl, refl))), inl refl),
                    (
                      _,
                      inr (Ok (answers.Stat (stats.File 2 (chunk 1 1 (0 ∷ []) ∷ []))), ([], _, refl, inr (refl, ([], _, refl, refl, refl))), inl refl),
                      refl,
                    ),
                  ),
                ),
              ),
            ),
          ),
        ),
      ),
    ),
  ),
)

-- ---- a read that gives fewer bytes than it had seen: a server tells the length that has an edit of which nobody was sure, and another one gives the bytes, since the first one's block is damaged

abbrev a_short_read : List (List ℕ)
a_short_read =
    codes "create /f" ∷ codes "write /f 0 6161" ∷ codes "hold on forward" ∷ codes "write /f 2 6262" ∷ codes "hold off" ∷ codes "damage 0 1 0" ∷ codes "read /f 3 1" ∷ []

abbrev a_short_read_answers : List (List ℕ)
a_short_read_answers =
    codes "ok" ∷ codes "ok" ∷ codes "ok" ∷ codes "refused 29 Unsure" ∷ codes "ok" ∷ codes "ok" ∷ codes "ok" ∷ []

a_short_read_is_explained : AreExplained 16 4 a_short_read a_short_read_answers
unfolding one_word two_words three_words four_words append_line hold_line write_line read_line damage_line number_line upgrade_line decode_pairs encode_with written twenty_digits is_utf8 chars encode_utf8 digits
a_short_read_is_explained = (
  _,
  (
    _,
    inr (Ok answers.Done, (_, _, ([], inl (refl, refl)), refl, refl), inl refl),
    (
      _,
      inr (Ok answers.Done, ([], _, refl, inr (refl, ([], _, refl, inr (refl, ([], _, refl, inr (refl, (refl, refl))))))), inl refl),
      (
        _,
        inr (Ok answers.Done, ([], refl), inl refl),
        (
          _,
          inr (Err refusals.Unsure, ([], _, refl, inr (refl, ([], _, refl, inl (refusals.Unsure, refl, inr (refl, refl))))), inl refl),
          (
            _,
            inr (Ok answers.Done, ([], refl), inl refl),
            (
              _,
              inr (Ok answers.Done, ([], refl), inl refl),
              (
                _,
                inr (Ok (answers.Bytes []), ([], _, refl, inr (refl, ((0 ∷ []) ∷ [], [], refl, refl))), inl refl),
                refl,
              ),
            ),
          ),
        ),
      ),
    ),
  ),
)

-- ---- a record that nobody was sure of comes, and comes once

abbrev an_unsure_record : List (List ℕ)
an_unsure_record =
    codes "create /f" ∷ codes "append /f 6162" ∷ codes "hold on edit" ∷ codes "append /f 6364" ∷ codes "hold off" ∷ codes "deliver 1" ∷ codes "deliver 1" ∷ codes "read /f 0 16" ∷ []

abbrev an_unsure_record_answers : List (List ℕ)
an_unsure_record_answers =
    codes "ok" ∷ codes "ok 0" ∷ codes "ok" ∷ codes "refused 29 Unsure" ∷ codes "ok" ∷ codes "ok" ∷ codes "ok" ∷ codes "ok 61626364" ∷ []

an_unsure_record_is_explained : AreExplained 16 4 an_unsure_record an_unsure_record_answers
unfolding one_word two_words three_words four_words append_line hold_line write_line read_line number_line upgrade_line decode_pairs encode_with written twenty_digits is_utf8 chars encode_utf8 digits
an_unsure_record_is_explained = (
  _,
  (
    _,
    inr (Ok answers.Done, (_, _, ([], inl (refl, refl)), refl, refl), inl refl),
    (
      _,
      inr (Ok (answers.Number 0), ([], _, refl, inr (refl, ([], _, refl, inr (refl, [], _, refl, inr (inl (refl, refl)))))), inl refl),
      (
        _,
        inr (Ok answers.Done, ([], refl), inl refl),
        (
          _,
          inr (Err refusals.Unsure, ([], _, refl, inr (refl, ([], _, refl, inr (refl, [], _, refl, inl (refusals.Unsure, refl, inr (refl, refl)))))), inl refl),
          (
            _,
            inr (Ok answers.Done, ([], refl), inl refl),
            (
              _,
              inr (Ok answers.Done, (machines.Settles (codes "f" ∷ []) 0 0 ∷ [], refl), inl refl),
              (
                _,
                inr (Ok answers.Done, ([], refl), inl refl),
                (
                  _,
                  inr (Ok (answers.Bytes (97 ∷ 98 ∷ 99 ∷ 100 ∷ [])), ([], _, refl, inr (refl, ([], [], refl, refl))), inl refl),
                  refl,
                ),
              ),
            ),
          ),
        ),
      ),
    ),
  ),
)

-- ---- an edit that nobody was sure of is done where all nodes tick, and is read from another server

abbrev a_tick : List (List ℕ)
a_tick =
    codes "create /f" ∷ codes "write /f 0 61" ∷ codes "hold on forward" ∷ codes "write /f 1 62" ∷ codes "hold off" ∷ codes "tick" ∷ codes "lose 0 1" ∷ codes "read /f 0 2" ∷ []

abbrev a_tick_answers : List (List ℕ)
a_tick_answers =
    codes "ok" ∷ codes "ok" ∷ codes "ok" ∷ codes "refused 29 Unsure" ∷ codes "ok" ∷ codes "ok" ∷ codes "ok" ∷ codes "ok 6162" ∷ []

a_tick_is_explained : AreExplained 16 4 a_tick a_tick_answers
unfolding one_word two_words three_words four_words append_line hold_line write_line read_line lose_line number_line upgrade_line decode_pairs encode_with written twenty_digits is_utf8 chars encode_utf8 digits
a_tick_is_explained = (
  _,
  (
    _,
    inr (Ok answers.Done, (_, _, ([], inl (refl, refl)), refl, refl), inl refl),
    (
      _,
      inr (Ok answers.Done, ([], _, refl, inr (refl, ([], _, refl, inr (refl, ([], _, refl, inr (refl, (refl, refl))))))), inl refl),
      (
        _,
        inr (Ok answers.Done, ([], refl), inl refl),
        (
          _,
          inr (Err refusals.Unsure, ([], _, refl, inr (refl, ([], _, refl, inl (refusals.Unsure, refl, inr (refl, refl))))), inl refl),
          (
            _,
            inr (Ok answers.Done, ([], refl), inl refl),
            (
              _,
              inr (Ok answers.Done, (machines.Settles (codes "f" ∷ []) 0 0 ∷ [], refl), inl refl),
              (
                _,
                inr (Ok answers.Done, ([], refl), inl refl),
                (
                  _,
                  inr (Ok (answers.Bytes (97 ∷ 98 ∷ [])), ([], _, refl, inr (refl, ([], [], refl, refl))), inl refl),
                  refl,
                ),
              ),
            ),
          ),
        ),
      ),
    ),
  ),
)

-- ---- a rollback takes back writes, a move, a deletion and a scan

abbrev an_upgrade : List (List ℕ)
an_upgrade =
    codes "create /f" ∷ codes "write /f 0 61626364" ∷ codes "mkdir /d" ∷ codes "rollingUpgrade prepare" ∷ codes "write /f 0 7a" ∷ codes "append /f 7979" ∷ codes "mv /f /d" ∷ codes "rm -r /d" ∷ codes "at 300000" ∷ codes "scan" ∷ codes "beat 0" ∷ codes "beat 1" ∷ codes "ls /" ∷ codes "rollingUpgrade rollback" ∷ codes "ls /" ∷ codes "read /f 0 9" ∷ codes "ls /d" ∷ []

abbrev an_upgrade_answers : List (List ℕ)
an_upgrade_answers =
    codes "ok" ∷ codes "ok" ∷ codes "ok" ∷ codes "ok 1" ∷ codes "ok" ∷ codes "ok 4" ∷ codes "ok" ∷ codes "ok /.deleted.00000000000000000000.00000000000000000001.d" ∷ codes "ok" ∷ codes "ok 1 1" ∷ codes "ok 1" ∷ codes "ok 1" ∷ codes "ok" ∷ codes "ok 2" ∷ codes "ok d/ f" ∷ codes "ok 61626364" ∷ codes "ok" ∷ []

an_upgrade_is_explained : AreExplained 16 4 an_upgrade an_upgrade_answers
unfolding one_word two_words three_words four_words append_line hold_line write_line read_line number_line upgrade_line decode_pairs encode_with written twenty_digits is_utf8 chars encode_utf8 digits
an_upgrade_is_explained = (
  _,
  (
    _,
    inr (Ok answers.Done, (_, _, ([], inl (refl, refl)), refl, refl), inl refl),
    (
      _,
      inr (Ok answers.Done, ([], _, refl, inr (refl, ([], _, refl, inr (refl, ([], _, refl, inr (refl, (refl, refl))))))), inl refl),
      (
        _,
        inr (Ok answers.Done, (_, _, ([], inl (refl, refl)), refl, refl), inl refl),
        (
          _,
          inr (Ok (answers.Number 1), (_, inr (_, _, ([], inl (refl, refl)), (_, ([], inl (refl, refl)), refl)), refl), inl refl),
          (
            _,
            inr (Ok answers.Done, ([], _, refl, inr (refl, ([], _, refl, inr (refl, (refl, refl))))), inl refl),
            (
              _,
              inr (Ok (answers.Number 4), ([], _, refl, inr (refl, ([], _, refl, inr (refl, [], _, refl, inr (inl (refl, refl)))))), inl refl),
              (
                _,
                inr (Ok answers.Done, (_, _, ([], inl (refl, refl)), refl, refl), inl refl),
                (
                  _,
                  inr (Ok (answers.Path (codes ".deleted.00000000000000000000.00000000000000000001.d" ∷ [])), (_, _, ([], inl (refl, refl)), refl, refl), inl refl),
                  (
                    _,
                    inr (Ok answers.Done, (_, ([], refl), refl, refl), inl refl),
                    (
                      _,
                      inr (Ok (answers.Scanned 1 1), (_, ([], inl ((1, refl), refl)), refl), inl refl),
                      (
                        _,
                        inr (Ok (answers.Number 1), ([], refl), inl refl),
                        (
                          _,
                          inr (Ok (answers.Number 1), ([], refl), inl refl),
                          (
                            _,
                            inr (Ok (answers.Names []), (_, _, ([], inl (refl, refl)), refl, refl), inl refl),
                            (
                              _,
                              inr (Ok (answers.Number 2), inr (_, _, ([], inl (refl, refl)), (_, ([], inl (refl, refl)), refl)), inl refl),
                              (
                                _,
                                inr (Ok (answers.Names (record { name = codes "d"; is_directory = true } ∷ record { name = codes "f"; is_directory = false } ∷ [])), (_, _, ([], inl (refl, refl)), refl, refl), inl refl),
                                (
                                  _,
                                  inr (Ok (answers.Bytes (97 ∷ 98 ∷ 99 ∷ 100 ∷ [])), ([], _, refl, inr (refl, ([], [], refl, refl))), inl refl),
                                  (
                                    _,
                                    inr (Ok (answers.Names []), (_, _, ([], inl (refl, refl)), refl, refl), inl refl),
                                    refl,
                                  ),
                                ),
                              ),
                            ),
                          ),
                        ),
                      ),
                    ),
                  ),
                ),
              ),
            ),
          ),
        ),
      ),
    ),
  ),
)

-- ---- a snapshot is a copy, and a rollback takes back the writes to both

abbrev a_snapshot : List (List ℕ)
a_snapshot =
    codes "create /f" ∷ codes "write /f 0 6162" ∷ codes "snapshot /f /g" ∷ codes "rollingUpgrade prepare" ∷ codes "write /f 0 78" ∷ codes "write /g 0 79" ∷ codes "read /f 0 2" ∷ codes "read /g 0 2" ∷ codes "stat /f" ∷ codes "rm /f" ∷ codes "rollingUpgrade rollback" ∷ codes "stat /f" ∷ codes "read /g 0 2" ∷ []

abbrev a_snapshot_answers : List (List ℕ)
a_snapshot_answers =
    codes "ok" ∷ codes "ok" ∷ codes "ok" ∷ codes "ok 1" ∷ codes "ok" ∷ codes "ok" ∷ codes "ok 7862" ∷ codes "ok 7962" ∷ codes "ok file 2 2/1/0,1,2" ∷ codes "ok /.deleted.00000000000000000000.00000000000000000001.f" ∷ codes "ok 2" ∷ codes "ok file 2 1/2/0,1,2" ∷ codes "ok 6162" ∷ []

a_snapshot_is_explained : AreExplained 16 4 a_snapshot a_snapshot_answers
unfolding one_word two_words three_words four_words append_line hold_line write_line read_line number_line upgrade_line decode_pairs encode_with written twenty_digits is_utf8 chars encode_utf8 digits
a_snapshot_is_explained = (
  _,
  (
    _,
    inr (Ok answers.Done, (_, _, ([], inl (refl, refl)), refl, refl), inl refl),
    (
      _,
      inr (Ok answers.Done, ([], _, refl, inr (refl, ([], _, refl, inr (refl, ([], _, refl, inr (refl, (refl, refl))))))), inl refl),
      (
        _,
        inr (Ok answers.Done, (_, _, ([], inl (refl, refl)), refl, refl), inl refl),
        (
          _,
          inr (Ok (answers.Number 1), (_, inr (_, _, ([], inl (refl, refl)), (_, ([], inl (refl, refl)), refl)), refl), inl refl),
          (
            _,
            inr (Ok answers.Done, ([], _, refl, inr (refl, ([], _, refl, inr (refl, (refl, refl))))), inl refl),
            (
              _,
              inr (Ok answers.Done, ([], _, refl, inr (refl, ([], _, refl, inr (refl, (refl, refl))))), inl refl),
              (
                _,
                inr (Ok (answers.Bytes (120 ∷ 98 ∷ [])), ([], _, refl, inr (refl, ([], [], refl, refl))), inl refl),
                (
                  _,
                  inr (Ok (answers.Bytes (121 ∷ 98 ∷ [])), ([], _, refl, inr (refl, ([], [], refl, refl))), inl refl),
                  (
                    _,
                    inr (Ok (answers.Stat (stats.File 2 (chunk 2 1 all_three ∷ []))), ([], _, refl, inr (refl, ([], _, refl, refl, refl))), inl refl),
                    (
                      _,
                      inr (Ok (answers.Path (codes ".deleted.00000000000000000000.00000000000000000001.f" ∷ [])), (_, _, ([], inl (refl, refl)), refl, refl), inl refl),
                      (
                        _,
                        inr (Ok (answers.Number 2), inr (_, _, ([], inl (refl, refl)), (_, ([], inl (refl, refl)), refl)), inl refl),
                        (
                          _,
                          inr (Ok (answers.Stat (stats.File 2 (chunk 1 2 all_three ∷ []))), ([], _, refl, inr (refl, ([], _, refl, refl, refl))), inl refl),
                          (
                            _,
                            inr (Ok (answers.Bytes (97 ∷ 98 ∷ [])), ([], _, refl, inr (refl, ([], [], refl, refl))), inl refl),
                            refl,
                          ),
                        ),
                      ),
                    ),
                  ),
                ),
              ),
            ),
          ),
        ),
      ),
    ),
  ),
)

-- ---- an edit that nobody was sure of, and those after it, are taken back

abbrev an_unsure_upgrade : List (List ℕ)
an_unsure_upgrade =
    codes "create /f" ∷ codes "write /f 0 6161" ∷ codes "rollingUpgrade prepare" ∷ codes "hold on forward" ∷ codes "write /f 0 62" ∷ codes "hold off" ∷ codes "at 60" ∷ codes "write /f 1 63" ∷ codes "beat 1" ∷ codes "replicate" ∷ codes "write /f 0 64" ∷ codes "read /f 0 2" ∷ codes "rollingUpgrade rollback" ∷ codes "read /f 0 2" ∷ codes "stat /f" ∷ []

abbrev an_unsure_upgrade_answers : List (List ℕ)
an_unsure_upgrade_answers =
    codes "ok" ∷ codes "ok" ∷ codes "ok 1" ∷ codes "ok" ∷ codes "refused 29 Unsure" ∷ codes "ok" ∷ codes "ok" ∷ codes "ok" ∷ codes "ok 1" ∷ codes "ok 1 1" ∷ codes "ok" ∷ codes "ok 6463" ∷ codes "ok 2" ∷ codes "ok 6161" ∷ codes "ok file 2 1/1/0,1,2" ∷ []

an_unsure_upgrade_is_explained : AreExplained 16 4 an_unsure_upgrade an_unsure_upgrade_answers
unfolding one_word two_words three_words four_words append_line hold_line write_line read_line number_line upgrade_line decode_pairs encode_with written twenty_digits is_utf8 chars encode_utf8 digits
an_unsure_upgrade_is_explained = (
  _,
  (
    _,
    inr (Ok answers.Done, (_, _, ([], inl (refl, refl)), refl, refl), inl refl),
    (
      _,
      inr (Ok answers.Done, ([], _, refl, inr (refl, ([], _, refl, inr (refl, ([], _, refl, inr (refl, (refl, refl))))))), inl refl),
      (
        _,
        inr (Ok (answers.Number 1), (_, inr (_, _, ([], inl (refl, refl)), (_, ([], inl (refl, refl)), refl)), refl), inl refl),
        (
          _,
          inr (Ok answers.Done, ([], refl), inl refl),
          (
            _,
            inr (Err refusals.Unsure, ([], _, refl, inr (refl, ([], _, refl, inl (refusals.Unsure, refl, inr (refl, refl))))), inl refl),
            (
              _,
              inr (Ok answers.Done, ([], refl), inl refl),
              (
                _,
                inr (Ok answers.Done, (_, ([], refl), refl, refl), inl refl),
                (
                  _,
                  inr (Ok answers.Done, (machines.Settles (codes "f" ∷ []) 0 0 ∷ [], _, refl, inr (refl, ([], _, refl, inr (refl, (refl, refl))))), inl refl),
                  (
                    _,
                    inr (Ok (answers.Number 1), ([], refl), inl refl),
                    (
                      _,
                      inr (Ok (answers.Copied (Some (record { handle = 1; server = 1 }))), ([], refl), inl refl),
                      (
                        _,
                        inr (Ok answers.Done, ([], _, refl, inr (refl, ([], _, refl, inr (refl, (refl, refl))))), inl refl),
                        (
                          _,
                          inr (Ok (answers.Bytes (100 ∷ 99 ∷ [])), ([], _, refl, inr (refl, ([], [], refl, refl))), inl refl),
                          (
                            _,
                            inr (Ok (answers.Number 2), inr (_, _, ([], inl (refl, refl)), (_, ([], inl (refl, refl)), refl)), inl refl),
                            (
                              _,
                              inr (Ok (answers.Bytes (97 ∷ 97 ∷ [])), ([], _, refl, inr (refl, ([], [], refl, refl))), inl refl),
                              (
                                _,
                                inr (Ok (answers.Stat (stats.File 2 (chunk 1 1 all_three ∷ []))), ([], _, refl, inr (refl, ([], _, refl, refl, refl))), inl refl),
                                refl,
                              ),
                            ),
                          ),
                        ),
                      ),
                    ),
                  ),
                ),
              ),
            ),
          ),
        ),
      ),
    ),
  ),
)

-- ---- a rollback that is begun by a late call, which comes again after a new prepare: the master has been restarted, and doesn't know that it came

abbrev a_late_rollback : List (List ℕ)
a_late_rollback =
    codes "rollingUpgrade prepare" ∷ codes "hold on call" ∷ codes "rollback-begin" ∷ codes "hold off" ∷ codes "deliver 1" ∷ codes "rollingUpgrade query" ∷ codes "rollback-commit" ∷ codes "restart master" ∷ codes "rollingUpgrade prepare" ∷ codes "restart master" ∷ codes "deliver 1" ∷ codes "rollingUpgrade query" ∷ []

abbrev a_late_rollback_answers : List (List ℕ)
a_late_rollback_answers =
    codes "ok 1" ∷ codes "ok" ∷ codes "refused 29 Unsure" ∷ codes "ok" ∷ codes "ok" ∷ codes "ok rolling 2" ∷ codes "ok 2" ∷ codes "ok" ∷ codes "ok 3" ∷ codes "ok" ∷ codes "ok" ∷ codes "ok rolling 4" ∷ []

a_late_rollback_is_explained : AreExplained 16 4 a_late_rollback a_late_rollback_answers
unfolding one_word two_words three_words four_words append_line hold_line write_line read_line number_line restart_line upgrade_line decode_pairs encode_with written twenty_digits is_utf8 chars encode_utf8 digits
a_late_rollback_is_explained = (
  _,
  (
    _,
    inr (Ok (answers.Number 1), (_, inr (_, _, ([], inl (refl, refl)), (_, ([], inl (refl, refl)), refl)), refl), inl refl),
    (
      _,
      inr (Ok answers.Done, ([], refl), inl refl),
      (
        _,
        inr (Err refusals.Unsure, (_, ([], inr (refusals.Unsure, refl, inr (refl, inl refl))), refl), inl refl),
        (
          _,
          inr (Ok answers.Done, ([], refl), inl refl),
          (
            _,
            inr (Ok answers.Done, (machines.Comes 0 ∷ [], refl), inl refl),
            (
              _,
              inr (Ok (answers.Phase phases.Rolling 2), (_, ([], inl (refl, refl)), refl), inl refl),
              (
                _,
                inr (Ok (answers.Number 2), (_, ([], inl (refl, refl)), refl), inl refl),
                (
                  _,
                  inr (Ok answers.Done, (_, ([], refl), refl), inl refl),
                  (
                    _,
                    inr (Ok (answers.Number 3), (_, inr (_, _, ([], inl (refl, refl)), (_, ([], inl (refl, refl)), refl)), refl), inl refl),
                    (
                      _,
                      inr (Ok answers.Done, (_, ([], refl), refl), inl refl),
                      (
                        _,
                        inr (Ok answers.Done, (machines.Comes 0 ∷ [], refl), inl refl),
                        (
                          _,
                          inr (Ok (answers.Phase phases.Rolling 4), (_, ([], inl (refl, refl)), refl), inl refl),
                          refl,
                        ),
                      ),
                    ),
                  ),
                ),
              ),
            ),
          ),
        ),
      ),
    ),
  ),
)
