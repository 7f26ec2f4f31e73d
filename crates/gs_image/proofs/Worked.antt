-- Images as another program makes them.
use Rattle.std.proofs.Common.{◌≡◌, ◌++◌, ◌∷◌, [], codes, refl}
use Rattle.sha2.specs.Sha256.{compress, digest_bytes, first_words, hash_after, rounds, schedule, sha256}
use Rattle.gs_image.specs.Images.{written}

the_image_of_no_part : written [] ≡
    codes "chunkstore image 1" ++ 10 ∷ 0 ∷ 0 ∷ 0 ∷ 0 ∷ 0 ∷ 0 ∷ 0 ∷ 0 ∷
    189 ∷ 245 ∷ 145 ∷ 3 ∷ 181 ∷ 94 ∷ 160 ∷ 76 ∷ 234 ∷ 68 ∷ 190 ∷ 68 ∷ 106 ∷ 138 ∷ 148 ∷ 7 ∷
    194 ∷ 36 ∷ 191 ∷ 170 ∷ 156 ∷ 86 ∷ 135 ∷ 177 ∷ 119 ∷ 202 ∷ 145 ∷ 48 ∷ 40 ∷ 128 ∷ 41 ∷ 166 ∷ []
unfolding first_words schedule rounds compress hash_after digest_bytes sha256
the_image_of_no_part = refl

the_image_of_one_part : written (codes "ab" ∷ []) ≡
    codes "chunkstore image 1" ++ 10 ∷ 0 ∷ 0 ∷ 0 ∷ 0 ∷ 0 ∷ 0 ∷ 0 ∷ 1 ∷
    0 ∷ 0 ∷ 0 ∷ 0 ∷ 0 ∷ 0 ∷ 0 ∷ 2 ∷ 97 ∷ 98 ∷
    251 ∷ 142 ∷ 32 ∷ 252 ∷ 46 ∷ 76 ∷ 63 ∷ 36 ∷ 140 ∷ 96 ∷ 195 ∷ 155 ∷ 214 ∷ 82 ∷ 243 ∷ 193 ∷
    52 ∷ 114 ∷ 152 ∷ 187 ∷ 151 ∷ 123 ∷ 139 ∷ 77 ∷ 89 ∷ 3 ∷ 184 ∷ 80 ∷ 85 ∷ 98 ∷ 6 ∷ 3 ∷
    114 ∷ 46 ∷ 234 ∷ 202 ∷ 209 ∷ 155 ∷ 96 ∷ 83 ∷ 154 ∷ 62 ∷ 246 ∷ 127 ∷ 123 ∷ 166 ∷ 196 ∷ 158 ∷
    151 ∷ 152 ∷ 97 ∷ 97 ∷ 156 ∷ 102 ∷ 33 ∷ 56 ∷ 158 ∷ 177 ∷ 185 ∷ 175 ∷ 1 ∷ 185 ∷ 186 ∷ 79 ∷ []
unfolding first_words schedule rounds compress hash_after digest_bytes sha256
the_image_of_one_part = refl
