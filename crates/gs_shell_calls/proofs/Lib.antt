mod Talking
