mod Ifs
